-- More than demand 3, which alone lets a wrong sum pass (it only cuts) and does not ask whether the object was really finalised.
use Rattle.std.specs.Prelude.{◌≡◌, ◌≢◌, ◌<◌}
use Rattle.rules.specs.Basics.{true, some, ℕ, length, take, drop, get_elem?, pos, All}
use Rattle.crc32c.specs.Reg.{crc_of}
use Rattle.rules.specs.Message.{Bytes, ChecksummedData, Request}
use Rattle.rules.specs.Session.{finalizing, regressed, beyond, ended}
use Rattle.rules.specs.Notes.{Mark}
use Rattle.rules.specs.World.{World}
use Rattle.rules.specs.Program.{AlwaysSteps}

-- (a) a chunk has the bytes of W at its offset, and their sum
pub record RightChunk (W : Bytes) (r : Request) (d : ChecksummedData) : Type 0 where
  pub offset : ℕ
  pub stands : r.write_offset ≡ pos offset
  pub content : d.content ≡ take (length d.content) (drop offset W)
  pub sum : d.crc32c ≡ crc_of d.content

-- a finish stands at the end of W, and a sum that it has is that of W
pub record RightFinish (W : Bytes) (r : Request) : Type 0 where
  pub stands : r.write_offset ≡ pos (length W)
  pub sum : (c : ℕ) → r.object_checksum ≡ some c → c ≡ crc_of W

pub record RightRequest (W : Bytes) (r : Request) : Type 0 where
  pub chunk : (d : ChecksummedData) → r.checksummed_data ≡ some d → RightChunk W r d
  pub finish : r.finish_write ≡ true → RightFinish W r

pub record HoldsMore (w : World) : Type 0 where
  -- (a) every request ever handed out is right, trimmed chunks too
  pub requests : All (RightRequest w.notes.all) w.notes.handed
  -- (b) "once a finalise's waiter is reported completed, the server's object is finalised"
  pub finalised : (i : ℕ) (m : Mark) → i < w.notes.completed → get_elem? w.notes.marks i ≡ some m → m.kind ≡ finalizing
      → w.server.stored.finalised ≡ true
  -- (c) a connection that lost nothing, with every request sent on it, was never cut: no request was answered by a cut
  pub uncut : w.server.link.lossless ≡ true → w.server.link.alive ≡ true
  -- (d) no session ends by a size that goes back or past the end
  pub steady : w.session.phase ≢ ended regressed
  pub not_beyond : w.session.phase ≢ ended beyond

abbrev pub MoreThanDemand3 : Type 0
MoreThanDemand3 = AlwaysSteps (λ o k w. HoldsMore w)
