-- The invariant over calls alone, whatever they bring, in two parts, and what each change does to them.
use mathlib.Core.Path.{◌≡◌, refl, sym, ap, ◌∙◌, subst}
use mathlib.Core.Bool.{Bool, true, false}
use mathlib.Core.Option.{some}
use mathlib.Core.List.{List, [], ◌∷◌, ◌++◌}
use Prim.Native.Nat.{ℕ, zero, suc, ◌+◌, ◌-◌, ◌≤◌, ◌<◌}
use native.Mathlib.Omega.{arith}
use lib.ListN.{length, drop, get_elem?, length-append, length-drop}
use lib.IntN.{ℤ, pos, negsuc, nat_abs, ◌+ℤ◌, ◌-ℤ◌}
use lib.Signed.{le_z, lt_z}
use borrow.Author.Tests.{ltb-false}
use Rattle.crc32c.specs.Reg.{crc_of}
use Rattle.rules.specs.Basics.{to_ℕ}
use Rattle.rules.specs.Message.{Bytes}
use Rattle.rules.specs.Session.{ReplayChunk, PendingRequest, Session, bytes_of, chunks, waiters, is_ended}
use Rattle.rules.specs.Respond.{end_offset, trimmed, ack, is_satisfied, satisfied}
use Rattle.rules.specs.Notes.{Mark}
use Rattle.rules.proofs.Tests.{never, clash}
use Rattle.rules.proofs.Lists.{cond_ind, Chain, chain_snoc, bytes_snoc, ack-chain}

-- ---- the invariant

-- low, limit and capacity: P, C and the capacity at the opening; p: P now. The chunks lie end to end from P up to the write offset.
pub record BytesOK (low limit capacity l c : ℕ) (p offset : ℤ) (held : Bytes) (cs : List ReplayChunk) : Type 0 where
  pub limit_is : l ≡ limit
  pub capacity_is : c ≡ capacity
  pub at : ℕ
  pub offset_is : offset ≡ pos at
  pub low_is : low ≤ to_ℕ p
  pub chain : Chain (to_ℕ p) cs at
  pub fewer : length (bytes_of cs) < capacity + limit
  pub small : length held < limit

abbrev pub Numbers : ℕ → List Mark → Type 0
Numbers n [] = Unit {0}
Numbers n (m ∷ ms) = (m.number ≡ suc n) × Numbers (suc n) ms

-- over: the session has ended
pub record CountOK (made : ℕ) (ws : List PendingRequest) (over : Bool) (marks : List Mark) (completed : ℕ) : Type 0 where
  pub made_is : made ≡ length marks
  pub numbers : Numbers 0 marks
  pub at_most : completed ≤ length marks
  pub count_is : over ≡ false → completed + length ws ≡ length marks
  pub none_left : over ≡ true → ws ≡ []

pub record Called (low limit capacity : ℕ) (s : Session) (marks : List Mark) (completed : ℕ) : Type 0 where
  pub bytes : BytesOK low limit capacity s.limit s.worker.replay_buffer.capacity s.worker.persisted_size s.writer.write_offset s.writer.held (chunks s)
  pub count : CountOK s.writer.made (waiters s) (is_ended s.phase) marks completed

-- ---- the bytes

-- an acknowledgement leaves no more bytes
pub ack_shorter : (n : ℤ) (cs : List ReplayChunk) → length (bytes_of (ack n cs)) ≤ length (bytes_of cs)
unfolding ack
ack_shorter n [] = omega arith
ack_shorter n (c ∷ cs) =
    cond_ind Q (le_z (end_offset c) n) (λ e. gone (ack_shorter n cs)) (λ e. cond_ind Q (lt_z c.write_offset n) (λ f. cut) (λ f. same))
  where
    Q : List ReplayChunk → Type 0
    Q x = length (bytes_of x) ≤ length (c.bytes ++ bytes_of cs)

    gone : length (bytes_of (ack n cs)) ≤ length (bytes_of cs) → Q (ack n cs)
    gone h = omega (arith, length-append c.bytes (bytes_of cs))

    cut : Q (trimmed n c ∷ cs)
    cut =
        let k : ℕ = nat_abs (n -ℤ c.write_offset) in
        omega (arith, length-append c.bytes (bytes_of cs), length-append (drop k c.bytes) (bytes_of cs), length-drop k c.bytes)

    same : Q (c ∷ cs)
    same = omega arith

-- one below 0 leaves all
pub ack_negative : (cs : List ReplayChunk) (a b m : ℕ) → Chain a cs b → ack (negsuc m) cs ≡ cs
unfolding ack
ack_negative [] a b m h = refl
ack_negative (c ∷ cs) a b m h =
    cond_ind Q _ (λ e. clash e (ap (λ (z : ℤ). le_z (z +ℤ pos (length c.bytes)) (negsuc m)) h.0))
    (λ _. cond_ind Q _ (λ e. clash e (ap (λ (z : ℤ). lt_z z (negsuc m)) h.0)) (λ _. refl))
  where
    Q : List ReplayChunk → Type 0
    Q x = x ≡ c ∷ cs

pub chain_length : (cs : List ReplayChunk) (a b : ℕ) → Chain a cs b → a + length (bytes_of cs) ≡ b
chain_length [] a b h = omega arith
chain_length (c ∷ cs) a b h = omega (arith, chain_length cs (a + length c.bytes) b h.2, length-append c.bytes (bytes_of cs))

not-above : (p : ℤ) (n : ℕ) → lt_z (pos n) p ≡ false → to_ℕ p ≤ n
not-above (pos a) n e = ltb-false n a e
not-above (negsuc a) n e = omega arith

not_negative : (p : ℤ) (n : ℕ) → lt_z (negsuc n) p ≡ false → to_ℕ p ≡ 0
not_negative (pos a) n e = never e
not_negative (negsuc a) n e = refl

module _ {low limit capacity l c : ℕ} {p offset : ℤ} {held : Bytes} {cs : List ReplayChunk} where
  -- a cut, made only where stored is below capacity, adds at most C bytes
  pub bytes-cuts : (x : Bytes) → length (bytes_of cs) < c → length x ≤ limit → BytesOK low limit capacity l c p offset held cs
      → BytesOK low limit capacity l c p (offset +ℤ pos (length x)) [] (cs ++ (record { write_offset = offset; bytes = x; crc32c = crc_of x } ∷ []))
  bytes-cuts x f m h =
      let new : ReplayChunk = record { write_offset = offset; bytes = x; crc32c = crc_of x } in
      let e : length (bytes_of (cs ++ (new ∷ []))) ≡ length (bytes_of cs) + length x = ap length (bytes_snoc cs new) ∙ length-append (bytes_of cs) x in
      let k : c ≡ capacity = h.capacity_is in
      let n : length held < limit = h.small in
      record {
        limit_is = h.limit_is;
        capacity_is = k;
        at = h.at + length x;
        offset_is = ap (λ (z : ℤ). z +ℤ pos (length x)) h.offset_is;
        low_is = h.low_is;
        chain = chain_snoc cs (to_ℕ p) h.at new h.chain h.offset_is refl;
        fewer = omega arith;
        small = omega arith;
      }

  pub bytes-holds : (x : Bytes) → length x < l → BytesOK low limit capacity l c p offset held cs → BytesOK low limit capacity l c p offset x cs
  bytes-holds x m h = record {
    limit_is = h.limit_is;
    capacity_is = h.capacity_is;
    at = h.at;
    offset_is = h.offset_is;
    low_is = h.low_is;
    chain = h.chain;
    fewer = h.fewer;
    small = omega (arith, h.limit_is);
  }

  -- chunks that lie from the size n on
  acked : (n : ℤ) (cs' : List ReplayChunk) (h : BytesOK low limit capacity l c p offset held cs) → to_ℕ p ≤ to_ℕ n → Chain (to_ℕ n) cs' h.at
      → BytesOK low limit capacity l c n offset held cs'
  acked n cs' h up k =
      let f : length (bytes_of cs) < capacity + limit = h.fewer in
      let e : low ≤ to_ℕ p = h.low_is in
      record {
        limit_is = h.limit_is;
        capacity_is = h.capacity_is;
        at = h.at;
        offset_is = h.offset_is;
        low_is = omega arith;
        chain = k;
        fewer = omega (arith, chain_length cs (to_ℕ p) h.at h.chain, chain_length cs' (to_ℕ n) h.at k);
        small = h.small;
      }

  -- a size that is neither below P nor above the write offset
  pub bytes_acks : (n : ℤ) → lt_z n p ≡ false → lt_z offset n ≡ false → BytesOK low limit capacity l c p offset held cs
      → BytesOK low limit capacity l c n offset held (ack n cs)
  bytes_acks (pos n) e f h =
      let up : to_ℕ p ≤ n = not-above p n e in
      let in-it : n ≤ h.at = ltb-false h.at n (subst (λ (z : ℤ). lt_z z (pos n) ≡ false) h.offset_is f) in
      acked (pos n) (ack (pos n) cs) h up (ack-chain cs (to_ℕ p) n h.at h.chain up in-it).chain
  bytes_acks (negsuc n) e f h =
      let z : to_ℕ p ≡ 0 = not_negative p n e in
      acked (negsuc n) (ack (negsuc n) cs) h (omega arith)
      (subst (λ (x : List ReplayChunk). Chain 0 x h.at) (sym (ack_negative cs (to_ℕ p) h.at n h.chain)) (subst (λ (a : ℕ). Chain a cs h.at) z h.chain))

-- ---- the count

numbers_snoc : (ms : List Mark) (n : ℕ) (m : Mark) → Numbers n ms → m.number ≡ suc (n + length ms) → Numbers n (ms ++ (m ∷ []))
numbers_snoc [] n m h e = (omega arith, tt)
numbers_snoc (x ∷ ms) n m h e = (h.0, numbers_snoc ms (suc n) m h.1 (omega arith))

pub numbers_get : (ms : List Mark) (n i : ℕ) (m : Mark) → Numbers n ms → get_elem? ms i ≡ some m → m.number ≡ suc (n + i)
numbers_get [] n i m h e = let z : ◌≡◌ {A = ℕ} 0 1 = cc in absurd (omega arith)
numbers_get (x ∷ ms) n zero m h e = let f : x.number ≡ m.number = cc in omega (arith, h.0)
numbers_get (x ∷ ms) n (suc i) m h e = omega (arith, numbers_get ms (suc n) i m h.1 e)

pub satisfied_le : (n : ℤ) (f : Bool) (ws : List PendingRequest) → satisfied n f ws ≤ length ws
unfolding satisfied
satisfied_le n f [] = omega arith
satisfied_le n f (q ∷ qs) =
    cond_ind (λ (k : ℕ). k ≤ length (q ∷ qs)) (is_satisfied n f q) (λ _. more (satisfied_le n f qs)) (λ _. omega arith)
  where
    more : satisfied n f qs ≤ length qs → suc (satisfied n f qs) ≤ length (q ∷ qs)
    more h = omega arith

module _ {made : ℕ} {ws : List PendingRequest} {over : Bool} {marks : List Mark} {completed : ℕ} where
  pub count_zero : CountOK made ws over marks completed → CountOK made ws over marks (completed + 0)
  count_zero h =
      let q : completed ≡ completed + 0 = omega arith in
      subst (λ (k : ℕ). CountOK made ws over marks k) q h

  -- another phase
  pub count_on : {over' : Bool} → over ≡ false → over' ≡ false → CountOK made ws over marks completed → CountOK made ws over' marks completed
  count_on e f h = record { made_is = h.made_is; numbers = h.numbers; at_most = h.at_most; count_is = λ _. h.count_is e; none_left = λ g. clash g f }

  pub count_ends : CountOK made ws over marks completed → CountOK made [] true marks completed
  count_ends h = record { made_is = h.made_is; numbers = h.numbers; at_most = h.at_most; count_is = λ e. never e; none_left = λ _. refl }

  pub count_serves : (k : ℕ) → k ≤ length ws → over ≡ false → CountOK made ws over marks completed → CountOK made (drop k ws) over marks (completed + k)
  count_serves k l o h =
      let c : completed + length ws ≡ length marks = h.count_is o in
      let d : length (drop k ws) ≡ length ws - k = length-drop k ws in
      record { made_is = h.made_is; numbers = h.numbers; at_most = omega arith; count_is = λ _. omega arith; none_left = λ e. clash e o }

  -- a waiter more, told the number that is now made
  pub count_new : {made' : ℕ} (q : PendingRequest) (m : Mark) → m.number ≡ suc made → made' ≡ suc made → over ≡ false → CountOK made ws over marks completed
      → CountOK made' (ws ++ (q ∷ [])) over (marks ++ (m ∷ [])) completed
  count_new q m n k o h =
      let c : completed + length ws ≡ length marks = h.count_is o in
      let e : made ≡ length marks = h.made_is in
      let lm : length (marks ++ (m ∷ [])) ≡ length marks + 1 = length-append marks (m ∷ []) in
      let lw : length (ws ++ (q ∷ [])) ≡ length ws + 1 = length-append ws (q ∷ []) in
      record {
        made_is = omega arith;
        numbers = numbers_snoc marks 0 m h.numbers (omega arith);
        at_most = omega arith;
        count_is = λ _. omega arith;
        none_left = λ g. clash g o;
      }
