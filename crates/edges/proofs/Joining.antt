-- Joining reports: a report of no edge changes nothing, and three reports may be joined in either grouping.
use mathlib.Core.Path.{◌≡◌, ◌∙◌, refl, sym, ap, subst}
use mathlib.Core.Bool.{Bool, true, false, cond}
use Prim.Native.Nat.{ℕ, ◌+◌}
use native.Mathlib.Omega.{arith}
use native.Mathlib.Nat.{add_assoc}
use lib.Dec.{T, eqb}
use lib.IntN.{ℤ, pos, negsuc, ◌+ℤ◌, +ℤ_assoc}
use lib.Signed.{le_z}
use borrow.Author.Tests.{eqb-true, eqb-false, eq-eqb, ne_eqb, leb-true, leb-false, le-leb}
use Rattle.lists.proofs.Lists.{by-test}
use Rattle.edges.specs.declared.Report.{Report}
use Rattle.edges.specs.Edges.{report, no_edge, smaller, larger, joined}
use Rattle.edges.proofs.Range.{joined-edges}

-- ---- the order of integers

pub le-joins : (a b c : ℤ) → le_z a b ≡ true → le_z b c ≡ true → le_z a c ≡ true
le-joins (pos a) (pos b) (pos c) h k =
    let p = leb-true a b h in
    let q = leb-true b c k in
    le-leb a c (omega arith)
le-joins (pos a) (pos b) (negsuc c) h k = k
le-joins (pos a) (negsuc b) c h k = absurd (subst T (sym h) tt)
le-joins (negsuc a) (pos b) (pos c) h k = refl
le-joins (negsuc a) (pos b) (negsuc c) h k = absurd (subst T (sym k) tt)
le-joins (negsuc a) (negsuc b) (pos c) h k = refl
le-joins (negsuc a) (negsuc b) (negsuc c) h k =
    let p = leb-true b a h in
    let q = leb-true c b k in
    le-leb c a (omega arith)

pub le-turns : (a b : ℤ) → le_z a b ≡ false → le_z b a ≡ true
le-turns (pos a) (pos b) h = let p = leb-false a b h in le-leb b a (omega arith)
le-turns (pos a) (negsuc b) h = refl
le-turns (negsuc a) (pos b) h = sym h
le-turns (negsuc a) (negsuc b) h = let p = leb-false b a h in le-leb a b (omega arith)

-- a above b above c
not-le : (a b c : ℤ) → le_z a b ≡ false → le_z b c ≡ false → le_z a c ≡ false
not-le a b c h k = go (le_z a c) refl
  where
    go : (t : Bool) → le_z a c ≡ t → t ≡ false
    go false e = refl
    go true e = sym (le-joins a c b e (le-turns b c k)) ∙ h

-- ---- the smaller and the larger of two

module _ (a b : ℤ) where
  smaller-first : le_z a b ≡ true → smaller a b ≡ a
  smaller-first h = ap (λ (t : Bool). cond t a b) h

  smaller-second : le_z a b ≡ false → smaller a b ≡ b
  smaller-second h = ap (λ (t : Bool). cond t a b) h

  larger-second : le_z a b ≡ true → larger a b ≡ b
  larger-second h = ap (λ (t : Bool). cond t b a) h

  larger-first : le_z a b ≡ false → larger a b ≡ a
  larger-first h = ap (λ (t : Bool). cond t b a) h

pub smaller-assoc : (a b c : ℤ) → smaller (smaller a b) c ≡ smaller a (smaller b c)
smaller-assoc a b c = go (le_z a b) refl (le_z b c) refl
  where
    go : (s : Bool) → le_z a b ≡ s → (t : Bool) → le_z b c ≡ t → smaller (smaller a b) c ≡ smaller a (smaller b c)
    go true h true k =
        ap (λ (x : ℤ). smaller x c) (smaller-first a b h) ∙ smaller-first a c (le-joins a b c h k)
        ∙ sym (ap (smaller a) (smaller-first b c k) ∙ smaller-first a b h)
    go true h false k =
        ap (λ (x : ℤ). smaller x c) (smaller-first a b h) ∙ sym (ap (smaller a) (smaller-second b c k))
    go false h true k =
        ap (λ (x : ℤ). smaller x c) (smaller-second a b h) ∙ smaller-first b c k
        ∙ sym (ap (smaller a) (smaller-first b c k) ∙ smaller-second a b h)
    go false h false k =
        ap (λ (x : ℤ). smaller x c) (smaller-second a b h) ∙ smaller-second b c k
        ∙ sym (ap (smaller a) (smaller-second b c k) ∙ smaller-second a c (not-le a b c h k))

pub larger-assoc : (a b c : ℤ) → larger (larger a b) c ≡ larger a (larger b c)
larger-assoc a b c = go (le_z a b) refl (le_z b c) refl
  where
    go : (s : Bool) → le_z a b ≡ s → (t : Bool) → le_z b c ≡ t → larger (larger a b) c ≡ larger a (larger b c)
    go true h true k =
        ap (λ (x : ℤ). larger x c) (larger-second a b h) ∙ larger-second b c k
        ∙ sym (ap (larger a) (larger-second b c k) ∙ larger-second a c (le-joins a b c h k))
    go true h false k =
        ap (λ (x : ℤ). larger x c) (larger-second a b h) ∙ larger-first b c k
        ∙ sym (ap (larger a) (larger-first b c k) ∙ larger-second a b h)
    go false h true k =
        ap (λ (x : ℤ). larger x c) (larger-first a b h) ∙ sym (ap (larger a) (larger-second b c k))
    go false h false k =
        ap (λ (x : ℤ). larger x c) (larger-first a b h) ∙ larger-first a c (not-le a b c h k)
        ∙ sym (ap (larger a) (larger-first b c k) ∙ larger-first a b h)

-- ---- two reports

abbrev pub summed : Report → Report → Report
summed a b =
    report (a.edges + b.edges) (a.sum +ℤ b.sum) (smaller a.smallest b.smallest)
    (larger a.largest b.largest)

module _ (a b : Report) where
  pub joined-second : a.edges ≡ 0 → joined a b ≡ b
  unfolding joined
  joined-second e = ap (λ (t : Bool). cond t b (cond (eqb b.edges 0) a (summed a b))) (eq-eqb a.edges 0 e)

  pub joined-first : (a.edges ≡ 0 → ⊥) → b.edges ≡ 0 → joined a b ≡ a
  unfolding joined
  joined-first n e =
      ap (λ (t : Bool). cond t b (cond (eqb b.edges 0) a (summed a b))) (ne_eqb a.edges 0 n)
      ∙ ap (λ (t : Bool). cond t a (summed a b)) (eq-eqb b.edges 0 e)

  pub joined-both : (a.edges ≡ 0 → ⊥) → (b.edges ≡ 0 → ⊥) → joined a b ≡ summed a b
  unfolding joined
  joined-both n m =
      ap (λ (t : Bool). cond t b (cond (eqb b.edges 0) a (summed a b))) (ne_eqb a.edges 0 n)
      ∙ ap (λ (t : Bool). cond t a (summed a b)) (ne_eqb b.edges 0 m)

pub none-joined : (r : Report) → joined no_edge r ≡ r
none-joined r = joined-second no_edge r refl

pub joined-none : (r : Report) → (r.edges ≡ 0 → r ≡ no_edge) → joined r no_edge ≡ r
joined-none r h =
    by-test (eqb r.edges 0)
    (λ e. let z = eqb-true r.edges 0 e in joined-second r no_edge z ∙ sym (h z))
    (λ e. joined-first r no_edge (eqb-false r.edges 0 e) refl)

-- ---- three reports

module _ (a b c : Report) where
  summed-assoc : summed (summed a b) c ≡ summed a (summed b c)
  summed-assoc =
      λ i.
      report (add_assoc a.edges b.edges c.edges i) (+ℤ_assoc a.sum b.sum c.sum i)
      (smaller-assoc a.smallest b.smallest c.smallest i)
      (larger-assoc a.largest b.largest c.largest i)

  some_more : (m n : ℕ) → (m ≡ 0 → ⊥) → m + n ≡ 0 → ⊥
  some_more m n h e = h (omega arith)

  all-some : (a.edges ≡ 0 → ⊥) → (b.edges ≡ 0 → ⊥) → (c.edges ≡ 0 → ⊥)
      → joined (joined a b) c ≡ joined a (joined b c)
  all-some l m n =
      ap (λ (r : Report). joined r c) (joined-both a b l m)
      ∙ joined-both (summed a b) c (some_more a.edges b.edges l) n
      ∙ summed-assoc
      ∙ sym (ap (joined a) (joined-both b c m n) ∙ joined-both a (summed b c) l (some_more b.edges c.edges m))

  last_none : (a.edges ≡ 0 → ⊥) → (b.edges ≡ 0 → ⊥) → c.edges ≡ 0 → joined (joined a b) c ≡ joined a (joined b c)
  last_none l m e =
      joined-first (joined a b) c (λ z. some_more a.edges b.edges l (sym (joined-edges a b) ∙ z)) e
      ∙ sym (ap (joined a) (joined-first b c m e))

  pub joined-assoc : joined (joined a b) c ≡ joined a (joined b c)
  joined-assoc =
      by-test (eqb a.edges 0)
      (λ e.
      let z = eqb-true a.edges 0 e in
      ap (λ (r : Report). joined r c) (joined-second a b z) ∙ sym (joined-second a (joined b c) z))
      (λ e.
      let l = eqb-false a.edges 0 e in
      by-test (eqb b.edges 0)
      (λ g.
      let z = eqb-true b.edges 0 g in
      ap (λ (r : Report). joined r c) (joined-first a b l z) ∙ sym (ap (joined a) (joined-second b c z)))
      (λ g.
      let m = eqb-false b.edges 0 g in
      by-test (eqb c.edges 0) (λ h. last_none l m (eqb-true c.edges 0 h))
      (λ h. all-some l m (eqb-false c.edges 0 h))))
