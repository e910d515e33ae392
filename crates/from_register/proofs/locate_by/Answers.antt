-- `from_register::locate_by` meets its contract.
use mathlib.Core.Path.{◌≡◌, sym, ◌∙◌}
use mathlib.Core.Bool.{true}
use Prim.Native.Nat.{◌≤◌}
use native.Mathlib.Omega.{arith}
use lib.ListN.{length}
use Rattle.columns.specs.Columns.{members}
use Rattle.decoding.specs.Remaining.{left_reach}
use Rattle.frame.specs.DeclaredCells.{declared_by}
use Rattle.from_register.proofs.Naming.{refusal-left, few-columns, gives_24, gives_25, gives_26, completable-asked, gives_unfit, gives-columns}
use Rattle.from_register.proofs.locate_by.Goals as goal
use Rattle.from_register.proofs.locate_by.Goals.{Else-not-alone, Else-not-reaches, Else-size-length}

-- ---- the ways back, and what the tests passed tell

reach : (c : Else-not-reaches) → left_reach c.args.s (declared_by c.args.declared.now) c.args.length ≡ true
reach c = sym c.reaches.ensures ∙ c.if-not-reaches.false

enough : (c : Else-size-length) → c.args.length ≤ length (members c.sought_columns-sought.result.columns)
enough c = omega (arith, c.size.ensures, c.if-size-length.false)

-- ---- the needs

pub returns-then-not-alone : goal.returns-then-not-alone
returns-then-not-alone c =
    λ a f. refusal-left a _ _ _ f _ c.refuse.ensures c.shaped.ensures
    ∙ gives_24 c.requires _ f (c.if-not-alone.true)

pub reaches-requires : goal.reaches-requires
reaches-requires c = let r = c.requires.locatable in record { shape = r.shape; flag = r.flag }

pub returns-then-not-reaches : goal.returns-then-not-reaches
returns-then-not-reaches c =
    λ a f. refusal-left a _ _ _ f _ c.refuse-then-not-reaches.ensures c.shaped-then-not-reaches.ensures
    ∙ gives_25 c.requires _ f c.if-not-alone.false (sym c.reaches.ensures ∙ c.if-not-reaches.true)

pub overflow_add-end : goal.overflow_add-end
overflow_add-end c = record { fits = omega (arith, c.requires.short) }

pub sought_columns-sought-requires : goal.sought_columns-sought-requires
sought_columns-sought-requires c = few-columns c.requires

pub returns-then-size-length : goal.returns-then-size-length
returns-then-size-length c =
    λ a f. refusal-left a _ _ _ f _ c.refuse-then-size-length.ensures c.shaped-then-size-length.ensures
    ∙ gives_26 c.requires c.if-not-alone.false (reach (goal.at.returns-then-size-length c).Else-not-reaches) c.sought_columns-sought.ensures _ f
    (omega (arith, c.size.ensures, c.if-size-length.true))

pub completes-requires : goal.completes-requires
completes-requires c =
    completable-asked c.requires c.if-not-alone.false (reach (goal.at.completes-requires c).Else-not-reaches) c.sought_columns-sought.ensures (enough c)

pub returns-then-not-completes : goal.returns-then-not-completes
returns-then-not-completes c =
    λ a f. refusal-left a _ _ _ f _ c.refuse-then-not-completes.ensures c.shaped-then-not-completes.ensures
    ∙ gives_unfit c.requires c.if-not-alone.false (reach (goal.at.returns-then-not-completes c).Else-not-reaches) c.sought_columns-sought.ensures (enough (goal.at.returns-then-not-completes c).Else-size-length) _ f
    (sym c.completes.ensures ∙ c.if-not-completes.true)

pub returns : goal.returns
returns c =
    λ a f. gives-columns c.requires c.if-not-alone.false (reach (goal.at.returns c).Else-not-reaches) c.sought_columns-sought.ensures (enough (goal.at.returns c).Else-size-length) _ f
    (sym c.completes.ensures ∙ c.if-not-completes.false) c.located.ensures
