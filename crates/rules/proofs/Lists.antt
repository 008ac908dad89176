-- Laws of tests, lists and chunks that the proofs use.
use mathlib.Core.Path.{◌≡◌, refl, sym, ap, ◌∙◌, subst}
use mathlib.Core.Bool.{Bool, true, false, not, cond}
use mathlib.Core.Option.{Option, none, some}
use mathlib.Core.List.{List, [], ◌∷◌, ◌++◌, append_assoc, append-nil}
use Prim.Native.Nat.{ℕ, zero, suc, ◌+◌, ◌-◌, ◌≤◌, ◌<◌}
use native.Mathlib.Omega.{arith}
use lib.ListN.{length, take, drop, get_elem?, length-append, length-drop, take-append-drop}
use lib.Seq.{take_at, drop-nil, drop-append-add, drop-append-le, length-take-le}
use lib.IntN.{ℤ, pos, nat_abs, ◌+ℤ◌, ◌-ℤ◌}
use lib.Signed.{le_z, lt_z}
use lib.Dec.{ltb}
use borrow.Author.Tests.{leb-true, leb-false, ltb-true, ltb-false}
use Rattle.crc32c.specs.Reg.{crc_of}
use Rattle.rules.specs.Basics.{All}
use Rattle.rules.specs.Message.{Bytes}
use Rattle.rules.specs.Session.{ReplayChunk, Session, Result, answers, refused, choose, unless, is_nil, bytes_of}
use Rattle.rules.specs.Respond.{end_offset, trimmed, ack}
use Rattle.rules.proofs.Tests.{never}

-- ---- by cases on a test

pub cond_ind {ℓ κ} : {A : Type ℓ} (Q : A → Type κ) (b : Bool) {x y : A} → (b ≡ true → Q x) → (b ≡ false → Q y) → Q (cond b x y)
cond_ind Q true f g = f refl
cond_ind Q false f g = g refl

pub choose_ind : (Q : Result → Type 0) (b : Bool) (x y : Result) → (b ≡ true → Q x) → (b ≡ false → Q y) → Q (choose b x y)
unfolding choose
choose_ind Q true x y f g = f refl
choose_ind Q false x y f g = g refl

abbrev pub AllFalse : List (Bool × ℕ) → Type 0
AllFalse [] = Unit {0}
AllFalse (t ∷ ts) = (t.0 ≡ false) × AllFalse ts

-- a list of refusals keeps what a refusal keeps and what the accepted result has
pub unless_ind : (Q : Result → Type 0) (s : Session) (ts : List (Bool × ℕ)) (r : Result)
    → ((n : ℕ) → Q (answers (refused n) s)) → (AllFalse ts → Q r) → Q (unless s ts r)
unfolding unless
unless_ind Q s [] r f g = g tt
unless_ind Q s (t ∷ ts) r f g = cond_ind Q t.0 (λ e. f t.1) (λ e. unless_ind Q s ts r f (λ h. g (e, h)))

-- ---- what options and lists tell

pub opt_ind {ℓ κ} : {A : Type ℓ} (Q : Option A → Type κ) (o : Option A) → (o ≡ none → Q none) → ((a : A) → o ≡ some a → Q (some a)) → Q o
opt_ind Q none f g = f refl
opt_ind Q (some a) f g = g a refl

pub nil_of : (l : Bytes) → not (is_nil l) ≡ false → l ≡ []
nil_of [] e = refl
nil_of (x ∷ xs) e = never e

-- ---- of each element

module _ {ℓ} {A : Type ℓ} where
  pub all_map : (Q R : A → Type 0) → ((x : A) → Q x → R x) → (l : List A) → All Q l → All R l
  all_map Q R f [] h = tt
  all_map Q R f (x ∷ xs) h = (f x h.0, all_map Q R f xs h.1)

  pub all_append : (Q : A → Type 0) (l m : List A) → All Q l → All Q m → All Q (l ++ m)
  all_append Q [] m h k = k
  all_append Q (x ∷ xs) m h k = (h.0, all_append Q xs m h.1 k)

  pub all_get : (Q : A → Type 0) (l : List A) (i : ℕ) (x : A) → All Q l → get_elem? l i ≡ some x → Q x
  all_get Q [] i x h e = let z : ◌≡◌ {A = ℕ} 0 1 = cc in absurd (omega arith)
  all_get Q (y ∷ ys) zero x h e = let f : y ≡ x = cc in subst Q f h.0
  all_get Q (y ∷ ys) (suc i) x h e = all_get Q ys i x h.1 e

  -- an element of the first part
  pub get_front : (l m : List A) (i : ℕ) → i < length l → get_elem? (l ++ m) i ≡ get_elem? l i
  get_front [] m i h = absurd (omega arith)
  get_front (x ∷ xs) m zero h = refl
  get_front (x ∷ xs) m (suc i) h = get_front xs m i (omega arith)

  -- two ways to cut one list at one place
  pub split_left : (a b x y : List A) → a ++ x ≡ b ++ y → length a ≡ length b → a ≡ b
  split_left a b x y e l = sym (take_at a x (length a) refl) ∙ ap (take (length a)) e ∙ take_at b y (length a) (sym l)

-- ---- chunks that lie end to end

-- from offset a up to offset b, each with its right sum
abbrev pub Chain : ℕ → List ReplayChunk → ℕ → Type 0
Chain a [] b = a ≡ b
Chain a (c ∷ cs) b = (c.write_offset ≡ pos a) × (c.crc32c ≡ crc_of c.bytes) × Chain (a + length c.bytes) cs b

pub chain_snoc : (cs : List ReplayChunk) (a b : ℕ) (c : ReplayChunk) → Chain a cs b → c.write_offset ≡ pos b → c.crc32c ≡ crc_of c.bytes → Chain a (cs ++ (c ∷ [])) (b + length c.bytes)
chain_snoc [] a b c h e f = let k : pos b ≡ pos a = ap pos (sym h) in (e ∙ k, f, omega arith)
chain_snoc (d ∷ ds) a b c h e f = (h.0, h.1, chain_snoc ds (a + length d.bytes) b c h.2 e f)

pub bytes_snoc : (cs : List ReplayChunk) (c : ReplayChunk) → bytes_of (cs ++ (c ∷ [])) ≡ bytes_of cs ++ c.bytes
bytes_snoc [] c = append-nil c.bytes
bytes_snoc (d ∷ ds) c = ap (λ (r : Bytes). d.bytes ++ r) (bytes_snoc ds c) ∙ sym (append_assoc d.bytes (bytes_of ds) c.bytes)

pub abs_sub : (a n : ℕ) → a ≤ n → nat_abs (pos n -ℤ pos a) ≡ n - a
abs_sub zero n h = omega arith
abs_sub (suc a) n h =
    cond_ind (λ (z : ℤ). nat_abs z ≡ n - suc a) (ltb n (suc a)) (λ e. absurd (omega (arith, ltb-true n (suc a) e))) (λ e. refl)

-- to acknowledge n: the chunks that are left lie from n on, and hold what was there from n on
pub record Acked (a n b : ℕ) (before now : List ReplayChunk) : Type 0 where
  pub chain : Chain n now b
  pub bytes : bytes_of now ≡ drop (n - a) (bytes_of before)

pub ack-chain : (cs : List ReplayChunk) (a n b : ℕ) → Chain a cs b → a ≤ n → n ≤ b → Acked a n b cs (ack (pos n) cs)
unfolding ack
ack-chain [] a n b h l r = record { chain = omega arith; bytes = sym (drop-nil (n - a)) }
ack-chain (c ∷ cs) a n b h l r =
    cond_ind Q _ (λ e. gone (end_le e) (ack-chain cs (a + length c.bytes) n b h.2 (end_le e) r))
    (λ e. cond_ind Q _ (cut_in e) (whole e))
  where
    Q : List ReplayChunk → Type 0
    Q x = Acked a n b (c ∷ cs) x

    end_le : le_z (end_offset c) (pos n) ≡ true → a + length c.bytes ≤ n
    end_le e = leb-true _ _ (subst (λ (z : ℤ). le_z (z +ℤ pos (length c.bytes)) (pos n) ≡ true) h.0 e)

    end_gt : le_z (end_offset c) (pos n) ≡ false → n < a + length c.bytes
    end_gt e = leb-false _ _ (subst (λ (z : ℤ). le_z (z +ℤ pos (length c.bytes)) (pos n) ≡ false) h.0 e)

    gone : a + length c.bytes ≤ n → Acked (a + length c.bytes) n b cs (ack (pos n) cs) → Q (ack (pos n) cs)
    gone k ih =
        let q : length c.bytes + (n - (a + length c.bytes)) ≡ n - a = omega arith in
        record {
          chain = ih.chain;
          bytes = ih.bytes ∙ sym (drop-append-add c.bytes (bytes_of cs) (n - (a + length c.bytes))) ∙ ap (λ (m : ℕ). drop m (c.bytes ++ bytes_of cs)) q;
        }

    cut_in : le_z (end_offset c) (pos n) ≡ false → lt_z c.write_offset (pos n) ≡ true → Q (trimmed (pos n) c ∷ cs)
    cut_in e f =
        let k : n < a + length c.bytes = end_gt e in
        let d : nat_abs (pos n -ℤ c.write_offset) ≡ n - a = ap (λ (z : ℤ). nat_abs (pos n -ℤ z)) h.0 ∙ abs_sub a n l in
        let g : length (drop (nat_abs (pos n -ℤ c.write_offset)) c.bytes) ≡ length c.bytes - nat_abs (pos n -ℤ c.write_offset) = length-drop _ c.bytes in
        let q : a + length c.bytes ≡ n + length (drop (nat_abs (pos n -ℤ c.write_offset)) c.bytes) = omega arith in
        record {
          chain = (refl, refl, subst (λ (m : ℕ). Chain m cs b) q h.2);
          bytes = sym (drop-append-le (nat_abs (pos n -ℤ c.write_offset)) c.bytes (bytes_of cs) (omega arith)) ∙ ap (λ (m : ℕ). drop m (c.bytes ++ bytes_of cs)) d;
        }

    whole : le_z (end_offset c) (pos n) ≡ false → lt_z c.write_offset (pos n) ≡ false → Q (c ∷ cs)
    whole e f =
        let k : n ≤ a = ltb-false _ _ (subst (λ (z : ℤ). lt_z z (pos n) ≡ false) h.0 f) in
        let q : a ≡ n = omega arith in
        let z : 0 ≡ n - a = omega arith in
        record {
          chain = (h.0 ∙ ap pos q, h.1, subst (λ (m : ℕ). Chain (m + length c.bytes) cs b) q h.2);
          bytes = ap (λ (m : ℕ). drop m (c.bytes ++ bytes_of cs)) z;
        }

-- ---- slices of the whole

-- data at an offset: its bytes stand there in K, and its sum is theirs
pub record Slice (K : Bytes) (at : ℤ) (b : Bytes) (sum : ℕ) : Type 0 where
  pub before : Bytes
  pub behind : Bytes
  pub whole : K ≡ before ++ b ++ behind
  pub at_is : at ≡ pos (length before)
  pub sum_is : sum ≡ crc_of b

pub slice_grow : {K : Bytes} {at : ℤ} {b : Bytes} {sum : ℕ} (x : Bytes) → Slice K at b sum → Slice (K ++ x) at b sum
slice_grow {b} x s = record {
  before = s.before;
  behind = s.behind ++ x;
  at_is = s.at_is;
  sum_is = s.sum_is;
  whole = ap (λ (r : Bytes). r ++ x) s.whole ∙ append_assoc (s.before ++ b) s.behind x;
}

-- a chunk of the whole
abbrev pub Part : Bytes → ReplayChunk → Type 0
Part K c = Slice K c.write_offset c.bytes c.crc32c

parts_go : (cs : List ReplayChunk) (front K : Bytes) (b : ℕ) → Chain (length front) cs b → K ≡ front ++ bytes_of cs → All (Part K) cs
parts_go [] front K b h e = tt
parts_go (c ∷ cs) front K b h e = (
  record { before = front; behind = bytes_of cs; whole = e ∙ sym (append_assoc front c.bytes (bytes_of cs)); at_is = h.0; sum_is = h.1 },
  parts_go cs (front ++ c.bytes) K b (subst (λ (m : ℕ). Chain m cs b) (sym (length-append front c.bytes)) h.2)
      (e ∙ sym (append_assoc front c.bytes (bytes_of cs))),
)

pub parts : (cs : List ReplayChunk) (p : ℕ) (K : Bytes) → p ≤ length K → Chain p cs (length K) → bytes_of cs ≡ drop p K → All (Part K) cs
parts cs p K l h e =
    parts_go cs (take p K) K (length K) (subst (λ (m : ℕ). Chain m cs (length K)) (sym (length-take-le p K l)) h)
    (sym (take-append-drop p K) ∙ ap (λ (r : Bytes). take p K ++ r) (sym e))

-- ---- a replay's place

pub take_some : (cs : List ReplayChunk) (i : ℕ) (c : ReplayChunk) → get_elem? cs i ≡ some c → bytes_of (take i cs) ++ c.bytes ≡ bytes_of (take (suc i) cs)
take_some [] i c e = let z : ◌≡◌ {A = ℕ} 0 1 = cc in absurd (omega arith)
take_some (d ∷ ds) zero c e = let f : d ≡ c = cc in ap ReplayChunk.bytes (sym f) ∙ sym (append-nil d.bytes)
take_some (d ∷ ds) (suc i) c e =
    append_assoc d.bytes (bytes_of (take i ds)) c.bytes ∙ ap (λ (r : Bytes). d.bytes ++ r) (take_some ds i c e)

pub take_none : (cs : List ReplayChunk) (i : ℕ) → get_elem? cs i ≡ none → take i cs ≡ cs
take_none [] zero e = refl
take_none [] (suc i) e = refl
take_none (d ∷ ds) zero e = let z : ◌≡◌ {A = ℕ} 0 1 = cc in absurd (omega arith)
take_none (d ∷ ds) (suc i) e = ap (λ (r : List ReplayChunk). d ∷ r) (take_none ds i e)

pub take-none_suc : (cs : List ReplayChunk) (i : ℕ) → get_elem? cs i ≡ none → take (suc i) cs ≡ cs
take-none_suc [] i e = refl
take-none_suc (d ∷ ds) zero e = let z : ◌≡◌ {A = ℕ} 0 1 = cc in absurd (omega arith)
take-none_suc (d ∷ ds) (suc i) e = ap (λ (r : List ReplayChunk). d ∷ r) (take-none_suc ds i e)

-- the chunk at a place stands behind those before it
pub chain-place : (cs : List ReplayChunk) (a b i : ℕ) (c : ReplayChunk) → Chain a cs b → get_elem? cs i ≡ some c
    → (c.write_offset ≡ pos (a + length (bytes_of (take i cs)))) × (c.crc32c ≡ crc_of c.bytes)
chain-place [] a b i c h e = let z : ◌≡◌ {A = ℕ} 0 1 = cc in absurd (omega arith)
chain-place (d ∷ ds) a b zero c h e =
    let f : d ≡ c = cc in
    let q : a ≡ a + 0 = omega arith in
    (ap ReplayChunk.write_offset (sym f) ∙ h.0 ∙ ap pos q, subst (λ (x : ReplayChunk). x.crc32c ≡ crc_of x.bytes) f h.1)
chain-place (d ∷ ds) a b (suc i) c h e =
    let k = chain-place ds (a + length d.bytes) b i c h.2 e in
    let q : a + length d.bytes + length (bytes_of (take i ds)) ≡ a + length (d.bytes ++ bytes_of (take i ds))
    = omega (arith, length-append d.bytes (bytes_of (take i ds))) in
    (k.0 ∙ ap pos q, k.1)
