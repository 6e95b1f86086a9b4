-- Each read puts what the input loses behind what was read before.
use Rattle.std.proofs.Common.{◌≡◌, ℕ, ◌+◌, ◌≤◌, List, ◌++◌, length, take, sym, ap, ◌∙◌, subst, le_refl, rules}
use Rattle.std.proofs.Common.{drop_at, length-take-le}
use Rattle.std.proofs.lemmas.Slice.{take-put_mid_below}
use Rattle.std.specs.declared.option.Option.{Option}
use Rattle.std.specs.Io.KnownBytes.{Consumes, Keeps}
use Rattle.std.proofs.KnownBytes.{Consumes-trans, Consumes-kept}
use borrow.Rule.Slice.PartMut.{put_mid, post_of}
use lib.Seq.{take-add, take-append-le}
use Rattle.test_io.proofs.read_full.Goals as goal
use Rattle.test_io.proofs.read_full.Goals.{in-Ok, in-Err+else-ne}

module _ (a b c : Option (List ℕ)) (xs part : List ℕ) (n m n' : ℕ) (within : n ≤ length xs)
    (before : Consumes a b (take n xs)) where
  front : take n xs ≡ take n (put_mid n m xs part)
  front = sym (take-put_mid_below _ _ _ _ _ (le_refl _) within)

  -- k more bytes are read into the part behind the first n
  read-more : (k : ℕ) → n' ≡ n + k → k ≤ length part → Consumes b c (take k part)
      → Consumes a c (take n' (put_mid n m xs part))
  read-more k e fits read =
      let all = put_mid n m xs part in
      let behind = drop_at (take n xs) (part ++ post_of n m xs) n (length-take-le n xs within) in
      let more = ap (take k) behind ∙ take-append-le k part (post_of n m xs) fits in
      let joined : take n xs ++ take k part ≡ take n' all =
      ap (λ (l : List ℕ). l ++ take k part) front ∙ ap (λ (l : List ℕ). take n all ++ l) (sym more)
      ∙ sym (take-add n k all) ∙ ap (λ (j : ℕ). take j all) (sym e) in
      subst (Consumes a c) joined (Consumes-trans a b c _ _ before read)

  read-none : n' ≡ n → Keeps b c → Consumes a c (take n' (put_mid n m xs part))
  read-none e kept =
      subst (Consumes a c) (front ∙ ap (λ (j : ℕ). take j (put_mid n m xs part)) (sym e))
      (Consumes-kept a b c _ before kept)

pub loop-preserved : goal.loop-preserved
loop-preserved g c =
    elim c.match-read.branch [
      | in-Ok w ↦ (
        search rules,
        search (rules, w.n-is),
        read-more (g.R.Read.remaining c.args.input.now) (g.R.Read.remaining c.loop.input)
            (g.R.Read.remaining c.read.new.self) c.loop.buffer c.read.new.buf c.loop.n _ _ c.loop.invariant.1
            c.loop.invariant.2 w.in-Ok.more w.n-is w.in-Ok.ensures.bound.0 w.in-Ok.ensures.bytes.0,
      )
      | in-Err+else-ne w ↦ (
        search rules,
        search (rules, w.n-is),
        read-none (g.R.Read.remaining c.args.input.now) (g.R.Read.remaining c.loop.input)
            (g.R.Read.remaining c.read.new.self) c.loop.buffer c.read.new.buf c.loop.n _ _ c.loop.invariant.1
            c.loop.invariant.2 w.n-is w.in-Err.ensures.bytes,
      )
    ]
