-- A station by itself tells its model by its own rules: characters wait and the line is free; none waits.
use mathlib.Core.Path.{◌≡◌, refl}
use mathlib.Core.List.{List, [], ◌∷◌, ◌++◌}
use Rattle.alphabet.specs.declared.Mode.{Mode}
use Rattle.demand3.specs.Model.{Model, Step, Offer, Ms, offered, begins_in, load, ends_in, did, ms_after}
use Rattle.demand3.specs.Model.{model_after, does, heard_in, OffersNone}
use Rattle.demand3.proofs.Told.{Told, offer, ms, did_by, ms_by, told_after, told_does, told_heard, ToldNone}
use Rattle.demand3.proofs.Cuts.{behind}

unfoldable pub told_of : Mode → Model → List Step → List Told
told_of mode m [] = []
told_of mode m (Offer cs ∷ steps) = offer cs ∷ told_of mode (offered mode cs m) steps
told_of mode m (Ms x ∷ steps) = ms (begins_in m) (ends_in mode m) x ∷ told_of mode (ms_after mode m x) steps

module _ (mode : Mode) where
  -- its model, and what it does, are those of what it is told
  pub own-after : (steps : List Step) (m : Model) → told_after mode m (told_of mode m steps) ≡ model_after mode m steps
  unfolding told_of told_after model_after ms_by ms_after load
  own-after [] m = refl
  own-after (Offer cs ∷ steps) m = own-after steps (offered mode cs m)
  own-after (Ms x ∷ steps) m = own-after steps (ms_after mode m x)

  pub own-does : (steps : List Step) (m : Model) → told_does mode m (told_of mode m steps) ≡ does mode m steps
  unfolding told_of told_does does ms_by ms_after did_by did load
  own-does [] m = refl
  own-does (Offer cs ∷ steps) m = own-does steps (offered mode cs m)
  own-does (Ms x ∷ steps) m = behind (own-does steps (ms_after mode m x))

  pub own-heard : (steps : List Step) (m : Model) → told_heard (told_of mode m steps) ≡ heard_in steps
  unfolding told_of told_heard heard_in
  own-heard [] m = refl
  own-heard (Offer cs ∷ steps) m = own-heard steps (offered mode cs m)
  own-heard (Ms x ∷ steps) m = behind (own-heard steps (ms_after mode m x))

  pub own-none : (steps : List Step) (m : Model) → OffersNone steps → ToldNone (told_of mode m steps)
  unfolding told_of ToldNone OffersNone
  own-none [] m h = tt
  own-none (Offer cs ∷ steps) m h = (h.0, own-none steps (offered mode cs m) h.1)
  own-none (Ms x ∷ steps) m h = own-none steps (ms_after mode m x) h

  pub own-append : (xs ys : List Step) (m : Model)
      → told_of mode m (xs ++ ys) ≡ told_of mode m xs ++ told_of mode (told_after mode m (told_of mode m xs)) ys
  unfolding told_of told_after ms_by ms_after load
  own-append [] ys m = refl
  own-append (Offer cs ∷ xs) ys m = behind (own-append xs ys (offered mode cs m))
  own-append (Ms x ∷ xs) ys m = behind (own-append xs ys (ms_after mode m x))
