-- What each change does to the stored and held bytes, and to a replay.
use mathlib.Core.Path.{◌≡◌, refl, sym, ap, ◌∙◌, subst}
use mathlib.Core.Bool.{Bool, false, cond}
use mathlib.Core.Option.{Option, none, some, some-injective, none-ne-some}
use mathlib.Core.List.{List, [], ◌∷◌, ◌++◌, append-nil}
use Prim.Native.Nat.{ℕ, ◌+◌, ◌-◌, ◌≤◌, ◌<◌}
use native.Mathlib.Omega.{arith}
use lib.ListN.{length, drop, length-append}
use lib.Seq.{drop-append-le, drop-drop}
use lib.IntN.{ℤ, pos, ◌+ℤ◌}
use borrow.Author.Tests.{le-leb}
use Rattle.crc32c.specs.Reg.{crc_of, joined}
use Rattle.crc32c.proofs.Join.{crc_joined}
use Rattle.rules.specs.Message.{Bytes}
use Rattle.rules.specs.Session.{ReplayChunk, Phase, is_replay}
use Rattle.rules.specs.Upload.{joined_sum}
use Rattle.rules.specs.Respond.{ack}
use Rattle.rules.specs.Opening.{larger}
use Rattle.rules.proofs.Tests.{clash}
use Rattle.rules.proofs.Lists.{Chain, chain_snoc, bytes_snoc, Acked, ack-chain}
use Rattle.rules.proofs.Inv.{Stock, Tally, BufferOK, ReplayOK}

-- ---- a chunk is cut

sum-cut : (o : Option ℕ) (K x : Bytes) → ((c : ℕ) → o ≡ some c → c ≡ crc_of K) → (c : ℕ) → joined_sum o x ≡ some c → c ≡ crc_of (K ++ x)
sum-cut none K x h c e = absurd (none-ne-some c e)
sum-cut (some a) K x h c e = sym (some-injective _ c e) ∙ ap (λ (y : ℕ). joined y (crc_of x) (length x)) (h a refl) ∙ crc_joined K x

-- the bytes x are cut as one chunk
pub buffer_cuts : {K : Bytes} {p : ℕ} {b : Stock} {t : Tally} (x all : Bytes) (loose : ℕ) → all ≡ K ++ x → loose ≡ 0 → BufferOK K p b t
    → BufferOK (K ++ x) p
    (record {
      limit = b.limit;
      write_offset = b.write_offset +ℤ pos (length x);
      running_crc32c = joined_sum b.running_crc32c x;
      held = [];
      persisted_size = b.persisted_size;
      queue = b.queue ++ (record { write_offset = b.write_offset; bytes = x; crc32c = crc_of x } ∷ []);
    })
    (record { limit = t.limit; all = all; loose = loose; largest = t.largest })
buffer_cuts {K} {p} {b} x all loose e l h =
    let c : ReplayChunk = record { write_offset = b.write_offset; bytes = x; crc32c = crc_of x } in
    let m : length b.held < b.limit = h.small in
    let w : p ≤ length K = h.within in
    record {
      limit_is = h.limit_is;
      all_is = e ∙ sym (append-nil (K ++ x));
      loose_is = l;
      small = omega arith;
      p_is = h.p_is;
      largest_is = h.largest_is;
      offset_is = ap (λ (z : ℤ). z +ℤ pos (length x)) h.offset_is ∙ ap pos (sym (length-append K x));
      within = omega (arith, length-append K x);
      chain = subst (Chain p (b.queue ++ (c ∷ []))) (sym (length-append K x)) (chain_snoc b.queue p (length K) c h.chain h.offset_is refl);
      bytes = bytes_snoc b.queue c ∙ ap (λ (r : Bytes). r ++ x) h.bytes ∙ sym (drop-append-le p K x w);
      sum = sum-cut b.running_crc32c K x h.sum;
    }

-- ---- more bytes are held

pub buffer_holds : {K : Bytes} {p : ℕ} {b : Stock} {t : Tally} (x all : Bytes) (loose : ℕ) → all ≡ K ++ x → loose ≡ length x → length x < b.limit → BufferOK K p b t
    → BufferOK K p
    (record { limit = b.limit; write_offset = b.write_offset; running_crc32c = b.running_crc32c; held = x; persisted_size = b.persisted_size; queue = b.queue })
    (record { limit = t.limit; all = all; loose = loose; largest = t.largest })
buffer_holds x all loose e l m h = record {
  limit_is = h.limit_is;
  all_is = e;
  loose_is = l;
  small = m;
  p_is = h.p_is;
  largest_is = h.largest_is;
  offset_is = h.offset_is;
  within = h.within;
  chain = h.chain;
  bytes = h.bytes;
  sum = h.sum;
}

-- ---- a size is stated and taken in

larger_is : (p n : ℕ) (z : ℤ) → z ≡ pos p → p ≤ n → larger z (pos n) ≡ pos n
larger_is p n z e h = ap (λ (y : ℤ). larger y (pos n)) e ∙ ap (λ (b : Bool). cond b (pos n) (pos p)) (le-leb p n h)

pub buffer_acks : {K : Bytes} {p : ℕ} {b : Stock} {t : Tally} (n : ℕ) → p ≤ n → n ≤ length K → BufferOK K p b t
    → BufferOK K n
    (record { limit = b.limit; write_offset = b.write_offset; running_crc32c = b.running_crc32c; held = b.held; persisted_size = pos n; queue = ack (pos n) b.queue })
    (record { limit = t.limit; all = t.all; loose = t.loose; largest = larger t.largest (pos n) })
buffer_acks {K} {p} {b} {t} n l r h =
    let a : Acked p n (length K) b.queue (ack (pos n) b.queue) = ack-chain b.queue p n (length K) h.chain l r in
    let q : p + (n - p) ≡ n = omega arith in
    record {
      limit_is = h.limit_is;
      all_is = h.all_is;
      loose_is = h.loose_is;
      small = h.small;
      p_is = refl;
      largest_is = larger_is p n t.largest h.largest_is l;
      offset_is = h.offset_is;
      within = r;
      chain = a.chain;
      sum = h.sum;
      bytes = a.bytes ∙ ap (drop (n - p)) h.bytes ∙ drop-drop (n - p) p K ∙ ap (λ (m : ℕ). drop m K) q;
    }

-- ---- replay

pub replay_off : {K : Bytes} {p : ℕ} {ph : Phase} {cs : List ReplayChunk} {z : ℤ} {c : Bytes} → is_replay ph ≡ false → ReplayOK K p ph cs z c false
replay_off e = record { mid = λ f. clash f e; end = λ f. clash f refl }

-- an accepted call that hands out nothing and is not done
pub replay_on : {K : Bytes} {p : ℕ} {ph : Phase} {cs : List ReplayChunk} {z : ℤ} {c : Bytes} {d : Bool} → ReplayOK K p ph cs z c d → ReplayOK K p ph cs z (c ++ []) false
replay_on {c} h = record { mid = λ f. ((h.mid f).0, append-nil c ∙ (h.mid f).1); end = λ f. clash f refl }
