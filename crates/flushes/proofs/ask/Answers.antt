-- what the tests come to, by the record's numbers
use mathlib.Core.Path.{◌≡◌, refl, sym, ◌∙◌, subst}
use mathlib.Core.Bool.{Bool, true, false, not}
use Prim.Native.Nat.{ℕ}
use native.Mathlib.Omega.{arith}
use lib.Dec.{eqb}
use lib.ListN.{length}
use Rattle.std.specs.declared.result.Result.{Result}
use Rattle.std.specs.Prelude.{Ok, Err}
use Rattle.bidi_write.specs.declared.Refusal.{Refusal}
use Rattle.transport.specs.Valid.{Enters}
use Rattle.transport.proofs.First.{turned_away_lem}
use Rattle.flushes.specs.Flush.{call_of}
use Rattle.flushes.proofs.Asking.{ask_tests, Asking, never_empty, ask_refuses, ask_cut-room, ask_cuts, ask_waits, waitable}
use Rattle.flushes.proofs.ask.Goals.{After-upload}
use Rattle.flushes.proofs.ask.Goals as goal

tested-as : (c : After-upload) (o : Result (Unit {0}) Refusal) → c.upload.result ≡ o
    → ask_tests c.args.s (length c.args.out.now) (not (eqb c.args.s.held 0)) ≡ o
tested-as c o e = rw (sym c.phase_number.ensures, sym c.lacks_room.ensures) (sym c.upload.ensures ∙ e)

asking : (c : After-upload) (cuts : Bool) → not (eqb c.args.s.held 0) ≡ cuts → c.upload.result ≡ Ok tt → Asking c.args.s (length c.args.out.now) cuts
asking c cuts e t = record { cuts_is = sym e; goes = subst (λ (b : Bool). ask_tests c.args.s (length c.args.out.now) b ≡ Ok tt) e (tested-as c (Ok tt) t) }

some_held : (n : ℕ) → (n ≡ 0 → ⊥) → not (eqb n 0) ≡ true
some_held n h = grind arith

none_held : (n : ℕ) → n ≡ 0 → not (eqb n 0) ≡ false
none_held n e = rw e

pub returns-in_err-enter : goal.returns-in_err-enter
returns-in_err-enter c =
    let refused : c.from_residual.result ≡ Err c.in_err-enter.field-0.0 = grind arith in
    rw refused
    (turned_away_lem (call_of c.args.kind (length c.args.out.now)) c.args.s c.args.store.now c.args.table.now (never_empty c.args.kind _) c.args.out.now _
    (subst (Enters c.args.s _ _) c.in_err-enter.was c.enter.ensures))

pub returns-in_err-upload : goal.returns-in_err-upload
returns-in_err-upload c =
    let refused : c.from_residual-in_err-upload.result ≡ Err c.in_err-upload.field-0.0 = grind arith in
    let goes = c.enter.ensures.goes c.in_ok-enter.was in
    rw refused
    (ask_refuses c.args.kind c.args.s c.args.store.now c.args.table.now c.args.out.now goes.1 goes.0 (not (eqb c.args.s.held 0)) refl _
    (tested-as (goal.at.returns-in_err-upload c).After-upload (Err _) c.in_err-upload.was))

pub cut-requires : goal.cut-requires
cut-requires c =
    ask_cut-room c.args.s _ _ _ (c.enter.ensures.goes c.in_ok-enter.was).1 (asking (goal.at.cut-requires c).After-upload true (some_held _ c.if-cuts.true) c.in_ok-upload.was)

pub returns-then-cuts : goal.returns-then-cuts
returns-then-cuts c =
    ask_cuts c.args.kind c.args.s c.args.store.now c.args.table.now c.args.out.now (c.enter.ensures.goes c.in_ok-enter.was).1
    (asking (goal.at.returns-then-cuts c).After-upload true (some_held _ c.if-cuts.true) c.in_ok-upload.was) c.cut.result c.cut.new.table c.cut.new.out c.cut.ensures

pub wait-requires : goal.wait-requires
wait-requires c =
    let w = waitable _ _ (asking (goal.at.wait-requires c).After-upload false (none_held _ c.if-cuts.false) c.in_ok-upload.was) in
    (w.waiting, w.made)

pub returns : goal.returns
returns c =
    ask_waits c.args.kind c.args.s c.args.store.now c.args.table.now c.args.out.now (c.enter.ensures.goes c.in_ok-enter.was).1
    (asking (goal.at.returns c).After-upload false (none_held _ c.if-cuts.false) c.in_ok-upload.was) c.wait.result c.wait.ensures
