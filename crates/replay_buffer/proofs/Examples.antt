-- Three chunks in a ring of eight bytes and a table of four slots, computed; one byte and one word are lent beyond them.
-- Assumes nothing.
use mathlib.Core.Path.{◌≡◌, refl}
use mathlib.Core.List.{List, [], ◌∷◌}
use Prim.Native.Nat.{ℕ}
use lib.IntN.{pos, negsuc}
use Rattle.rules.specs.Message.{Bytes}
use Rattle.rules.specs.Respond.{ack}
use Rattle.crc32c.specs.Reg.{crc_of}
use Rattle.ring.specs.Ring.{part, rot}
use Rattle.chunk_words.specs.Word.{packed}
use Rattle.replay_buffer.specs.View.{lent, queue_of}
use Rattle.replay_buffer.specs.declared.ReplayBuffer.{ReplayBuffer}

-- bytes 10 to 14 from place 6 on and round the end; words of 2, 0 and 3 bytes from slot 3 on
store : Bytes
store = 12 ∷ 13 ∷ 14 ∷ 0 ∷ 0 ∷ 0 ∷ 10 ∷ 11 ∷ 99 ∷ []

table : List ℕ
table = packed 0 8 ∷ packed 3 9 ∷ 0 ∷ packed 2 7 ∷ 99 ∷ []

buffer : ReplayBuffer
buffer = record { capacity = 8; head = 6; unpersisted_bytes = 5; first = 3; chunks = 3 }

-- they end at 25
queue : queue_of (lent 8 4) buffer 25 store table
    ≡ record { write_offset = pos 20; bytes = 10 ∷ 11 ∷ []; crc32c = 7 }
    ∷ record { write_offset = pos 22; bytes = []; crc32c = 8 }
    ∷ record { write_offset = pos 22; bytes = 12 ∷ 13 ∷ 14 ∷ []; crc32c = 9 }
    ∷ []
unfolding queue_of part rot buffer store table
queue = refl

-- two end at or below 22
at_22 : ack (pos 22) (queue_of (lent 8 4) buffer 25 store table) ≡ record { write_offset = pos 22; bytes = 12 ∷ 13 ∷ 14 ∷ []; crc32c = 9 } ∷ []
unfolding queue_of part rot buffer store table ack
at_22 = refl

-- 24 lies in the last
at_24 : ack (pos 24) (queue_of (lent 8 4) buffer 25 store table) ≡ record { write_offset = pos 24; bytes = 14 ∷ []; crc32c = crc_of (14 ∷ []) } ∷ []
unfolding queue_of part rot buffer store table ack
at_24 = refl

at_25 : ack (pos 25) (queue_of (lent 8 4) buffer 25 store table) ≡ []
unfolding queue_of part rot buffer store table ack
at_25 = refl

below-zero : ack (negsuc 0) (queue_of (lent 8 4) buffer 25 store table) ≡ queue_of (lent 8 4) buffer 25 store table
unfolding queue_of part rot buffer store table ack
below-zero = refl
