use mathlib.Core.Path.{◌≡◌, sym, ◌∙◌, subst}
use mathlib.Core.Bool.{◌&&◌}
use Prim.Native.Nat.{◌<◌}
use native.Mathlib.Omega.{arith}
use lib.Dec.{leb}
use lib.ListN.{length}
use Rattle.std.specs.Prelude.{Err}
use Rattle.rules.specs.Session as R
use Rattle.transport.specs.Valid.{Enters}
use Rattle.transport.proofs.First.{some_offered, turned_away_lem}
use Rattle.appends.proofs.Appending.{append-nothing, append-refuses}
use Rattle.appends.proofs.append.Goals as goal

pub returns-then-is_empty : goal.returns-then-is_empty
returns-then-is_empty c = append-nothing c.args.«data».now c.args.s c.args.store.now c.args.table.now c.args.out.now (grind arith)

pub returns-in_err-enter : goal.returns-in_err-enter
returns-in_err-enter c =
    let refused : c.from_residual.result ≡ Err c.in_err-enter.field-0.0 = grind arith in
    let some : 0 < length c.args.«data».now = grind arith in
    rw refused
    (turned_away_lem (R.append c.args.«data».now (length c.args.out.now)) c.args.s c.args.store.now c.args.table.now (some_offered c.args.«data».now some) c.args.out.now _
    (subst (Enters c.args.s _ _) c.in_err-enter.was c.enter.ensures))

pub returns-in_err-upload : goal.returns-in_err-upload
returns-in_err-upload c =
    let refused : c.from_residual-in_err-upload.result ≡ Err c.in_err-upload.field-0.0 = grind arith in
    let some : 0 < length c.args.«data».now = grind arith in
    let goes = c.enter.ensures.goes c.in_ok-enter.was in
    let no_room : c.if-cuts.upload ≡ (c.fills-cuts.result && leb c.args.s.slots c.args.s.worker.replay_buffer.chunks) = grind arith in
    rw refused
    (append-refuses c.args.s c.args.store.now c.args.table.now c.args.out.now goes.1 c.args.«data».now c.room-n.result c.room-n.ensures goes.0 c.fills-cuts.result c.fills-cuts.ensures some _
    (rw (sym c.phase_number.ensures, sym no_room) (sym c.upload.ensures ∙ c.in_err-upload.was)))
