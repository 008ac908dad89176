-- One call on held bytes and data: what the code counts and copies is what the rules of an append say.
-- Assumes nothing.
use mathlib.Core.Path.{◌≡◌, refl, sym, ap}
use Prim.Native.Nat.{ℕ, ◌+◌, ◌-◌, ◌≤◌, min}
use native.Mathlib.Omega.{arith}
use lib.Dec.{leb}
use lib.ListN.{length, length-append, length-take}
use Rattle.rules.specs.Message.{Bytes}
use Rattle.rules.specs.Session.{Session}
use Rattle.rules.specs.Upload as R
use Rattle.ring.specs.Ring.{part, Within, Written}
use Rattle.ring.proofs.Laws.{length_part, part-before, part-joined}
use Rattle.coalescing_buffer.specs.Held.{takes, holds, cuts, Extends}

pub extends : (size head stored held : ℕ) (d : Bytes) (n : ℕ) (before after : Bytes) → Within (length before) size head (stored + held) n → n ≤ length d
    → Written size head (stored + held) d n before after → Extends size head stored held d n before after
extends size head stored held d n before after within enough written =
    record {
      held_is = part-joined size head (stored + held) d n before after within enough written stored held refl;
      stored_is = part-before size head (stored + held) d n before after within enough written 0 stored (omega arith);
      beyond = written.beyond;
    }

-- ---- the rules of an append, in these words

module _ (s : Session) (d : Bytes) where
  pub room_is : R.room d s ≡ takes s.limit s.writer.held d
  room_is = refl

-- ---- and in the code's numbers, at the bytes that the ring holds

module _ (limit size head stored held : ℕ) (store : Bytes) (lent : size ≤ length store) (fits : stored + held ≤ size) where
  pub length_held : length (part size head stored held store) ≡ held
  length_held = length_part size head store lent stored held fits

  module _ (d : Bytes) (n : ℕ) (en : n ≡ min (length d) (limit - held)) where
    pub takes_is : takes limit (part size head stored held store) d ≡ n
    takes_is = rw length_held (sym en)

    pub holds_is : (store' : Bytes) → Extends size head stored held d n store store' → holds limit (part size head stored held store) d ≡ part size head stored (held + n) store'
    holds_is store' e = rw takes_is (sym e.held_is)

    pub cuts_is : cuts limit (part size head stored held store) d ≡ leb limit (held + n)
    cuts_is = rw (takes_is, length-append, length_held, length-take) (ap (λ (k : ℕ). leb limit (held + k)) (omega arith))
