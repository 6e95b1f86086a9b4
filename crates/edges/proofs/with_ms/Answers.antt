-- `with_ms` meets its contract: the displacement is stored as it is.
use mathlib.Core.Path.{◌≡◌, ◌∙◌, refl, sym, ap, subst}
use mathlib.Core.Bool.{true, false}
use Prim.Native.Nat.{ℕ, ◌≤◌}
use native.Mathlib.Omega.{arith}
use lib.IntN.{ℤ}
use mir.Syntax.{w32}
use mir.Val.{to_z, of_z}
use mir.ValLaws.{to_z-of_z}
use Rattle.edges.specs.declared.Report.{Report}
use Rattle.edges.specs.declared.Edges.{Edges}
use Rattle.edges.specs.Edges.{edges, joined, one_edge, displacement, is_edge, with_ms}
use Rattle.edges.specs.code.Bounds.{ReportOf}
use Rattle.edges.proofs.Integers.{fits-32, displacement-size}
use Rattle.edges.proofs.Range.{more_of, one_of}
use Rattle.edges.proofs.with_ms.Goals as goal

stored_is : (e m : ℕ) {d : ℤ} → 1 ≤ e → e ≤ 22 → d ≡ displacement e m → to_z w32 (of_z w32 d) ≡ displacement e m
stored_is e m o h p =
    ap (λ (z : ℤ). to_z w32 (of_z w32 z)) p
    ∙ to_z-of_z w32 (displacement e m) (fits-32 (displacement e m) 11 (displacement-size e m o h) (omega arith))

module _ (e m : ℕ) (w : Edges) (heard : ℕ) where
  no_more : is_edge w.level heard ≡ false → edges w.seen heard ≡ with_ms e m w heard
  unfolding with_ms
  no_more t = rw t refl

  one_more : is_edge w.level heard ≡ true → {r : Report} → r ≡ joined w.seen (one_edge (displacement e m))
      → edges r heard ≡ with_ms e m w heard
  unfolding with_ms
  one_more t p = rw t (ap (λ (r : Report). edges r heard) p)

pub returns-then-not-is_edge : goal.returns-then-not-is_edge
returns-then-not-is_edge c =
    no_more c.args.e c.args.m c.args.w c.args.heard (sym c.is_edge.ensures ∙ c.if-not-is_edge.true)

pub joined-requires : goal.joined-requires
joined-requires c =
    let z = stored_is c.args.e c.args.m c.requires.le_e c.requires.e_bound c.displacement-d.ensures in
    record {
      report_of = more_of (omega arith) c.requires.report_of;
      report_of_2 = subst (λ (d : ℤ). ReportOf 1_000_000 (one_edge d)) (sym z)
          (more_of (omega arith) (one_of c.args.e c.args.m c.requires.le_e c.requires.e_bound));
    }

pub returns : goal.returns
returns c =
    one_more c.args.e c.args.m c.args.w c.args.heard
    (sym c.is_edge.ensures ∙ c.if-not-is_edge.false)
    (c.joined.ensures
    ∙ ap (λ (d : ℤ). joined c.args.w.seen (one_edge d))
    (stored_is c.args.e c.args.m c.requires.le_e c.requires.e_bound c.displacement-d.ensures))
