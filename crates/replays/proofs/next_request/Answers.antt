use mathlib.Core.Path.{◌≡◌, refl, sym, ap, ◌∙◌, subst}
use mathlib.Core.Bool.{◌&&◌}
use native.Mathlib.Omega.{arith}
use lib.ListN.{length}
use lib.Dec.{ltb}
use borrow.Author.Tests.{lt-ltb, le-ltb}
use Rattle.std.specs.Prelude.{Err}
use Rattle.rules.specs.Session as R
use Rattle.transport.specs.Valid.{Enters}
use Rattle.transport.proofs.First.{turned_away_lem}
use Rattle.replays.proofs.Next.{next_tests, next-refuses, next_chunk, next-rest}
use Rattle.replays.proofs.next_request.Goals.{then-more, else-more}
use Rattle.replays.proofs.next_request.Goals as goal

pub returns-in_err-enter : goal.returns-in_err-enter
returns-in_err-enter c =
    let refused : c.from_residual.result ≡ Err c.in_err-enter.field-0.0 = grind arith in
    rw refused
    (turned_away_lem (R.next_request (length c.args.out.now)) c.args.s c.args.store.now c.args.table.now refl c.args.out.now _
    (subst (Enters c.args.s _ _) c.in_err-enter.was c.enter.ensures))

pub returns-in_err-next_request : goal.returns-in_err-next_request
returns-in_err-next_request c =
    let refused : c.from_residual-in_err-next_request.result ≡ Err c.in_err-next_request.field-0.0 = grind arith in
    let goes = c.enter.ensures.goes c.in_ok-enter.was in
    let short_is : c.if-more.short ≡ (ltb c.cursor-at.result.next c.args.s.worker.replay_buffer.chunks && ltb (length c.args.out.now) c.args.s.limit) =
    elim c.if-more.branch [
      | then-more w ↦ rw (lt-ltb _ _ w.if-more.true) w.short-is
      | else-more w ↦ rw (le-ltb _ _ w.if-more.false) (w.short-is ∙ le-ltb _ _ w.if-more.false)
    ] in
    rw refused
    (next-refuses c.args.s c.args.store.now c.args.table.now c.args.out.now c.phase_number.result c.phase_number.ensures
    c.cursor-at.result c.cursor-at.ensures goes.0 goes.1
    _ (ap (next_tests c.phase_number.result) (sym short_is) ∙ sym c.next_request.ensures ∙ c.in_err-next_request.was))

pub returns-then-more-2 : goal.returns-then-more-2
returns-then-more-2 c =
    let goes = c.enter.ensures.goes c.in_ok-enter.was in
    let short_is : c.if-more.short ≡ (ltb c.cursor-at.result.next c.args.s.worker.replay_buffer.chunks && ltb (length c.args.out.now) c.args.s.limit) =
    elim c.if-more.branch [
      | then-more w ↦ rw (lt-ltb _ _ w.if-more.true) w.short-is
      | else-more w ↦ rw (le-ltb _ _ w.if-more.false) (w.short-is ∙ le-ltb _ _ w.if-more.false)
    ] in
    next_chunk c.args.s c.args.store.now c.args.table.now c.args.out.now c.phase_number.result c.phase_number.ensures
    c.cursor-at.result c.cursor-at.ensures goes.0 goes.1
    (ap (next_tests c.phase_number.result) (sym short_is) ∙ sym c.next_request.ensures ∙ c.in_ok-next_request.was)
    c.hand_chunk.result c.hand_chunk.new.out (lt-ltb _ _ c.if-more-2.true) c.hand_chunk.ensures

pub returns : goal.returns
returns c =
    let goes = c.enter.ensures.goes c.in_ok-enter.was in
    let short_is : c.if-more.short ≡ (ltb c.cursor-at.result.next c.args.s.worker.replay_buffer.chunks && ltb (length c.args.out.now) c.args.s.limit) =
    elim c.if-more.branch [
      | then-more w ↦ rw (lt-ltb _ _ w.if-more.true) w.short-is
      | else-more w ↦ rw (le-ltb _ _ w.if-more.false) (w.short-is ∙ le-ltb _ _ w.if-more.false)
    ] in
    next-rest c.args.s c.args.store.now c.args.table.now c.args.out.now c.phase_number.result c.phase_number.ensures
    c.cursor-at.result c.cursor-at.ensures goes.0 goes.1
    (ap (next_tests c.phase_number.result) (sym short_is) ∙ sym c.next_request.ensures ∙ c.in_ok-next_request.was)
    c.hand_rest.result (le-ltb _ _ c.if-more-2.false) c.hand_rest.ensures
