-- what the tests left, where a chunk is cut or not
use mathlib.Core.Path.{◌≡◌, subst}
use Prim.Native.Nat.{ℕ}
use Rattle.rules.specs.Message.{Bytes}
use Rattle.transport.specs.declared.Session.{Session}
use mathlib.Core.Bool.{Bool, true, false}
use lib.ListN.{length}
use Rattle.appends.specs.Append.{Taking}
use Rattle.appends.proofs.Appending.{take_within, take-cuts, append-cuts, append-holds}
use Rattle.appends.proofs.take.Goals as goal

taking : (s : Session) (d : Bytes) (out n : ℕ) (cuts b : Bool) → cuts ≡ b → Taking s d out n cuts → Taking s d out n b
taking s d out n cuts b e t = subst (Taking s d out n) e t

pub extend-requires-clause-within : goal.extend-requires-clause-within
extend-requires-clause-within c =
    rw (c.ring_size-size.ensures c.requires.guarded_at.capacity_top c.requires.guarded_at.limit_top) (take_within c.args.s _ _ c.requires.guarded_at c.args.«data».now (length c.args.out.now) c.args.n c.args.cuts c.requires.taking)

pub cut-requires : goal.cut-requires
cut-requires c =
    take-cuts c.args.s _ _ (rw c.extend.auto.store c.requires.guarded_at) c.args.«data».now (length c.args.out.now) c.args.n (taking c.args.s c.args.«data».now (length c.args.out.now) c.args.n c.args.cuts true c.if-cuts.true c.requires.taking)

pub returns-then-cuts : goal.returns-then-cuts
returns-then-cuts c =
    append-cuts c.args.s c.args.store.now c.args.table.now c.args.out.now c.requires.guarded_at c.args.«data».now c.args.n c.requires.taking.taken c.extend.new.store
    (rw (c.ring_size-size.ensures c.requires.guarded_at.capacity_top c.requires.guarded_at.limit_top) at c.extend.ensures) c.extend.auto.store
    (taking c.args.s c.args.«data».now (length c.args.out.now) c.args.n c.args.cuts true c.if-cuts.true c.requires.taking) c.cut.result c.cut.new.table c.cut.new.out c.cut.ensures

pub returns : goal.returns
returns c =
    append-holds c.args.s c.args.store.now c.args.table.now c.args.out.now c.requires.guarded_at c.args.«data».now c.args.n c.requires.taking.taken c.extend.new.store
    (rw (c.ring_size-size.ensures c.requires.guarded_at.capacity_top c.requires.guarded_at.limit_top) at c.extend.ensures) c.extend.auto.store
    (taking c.args.s c.args.«data».now (length c.args.out.now) c.args.n c.args.cuts false c.if-cuts.false c.requires.taking)
