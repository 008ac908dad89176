-- What a record's opening promises, from what the session's promises.
-- Assumes nothing.
use mathlib.Core.Path.{◌≡◌, ap, subst, ◌∙◌}
use mathlib.Core.Option.{none}
use mathlib.Core.List.{List}
use Prim.Native.Nat.{ℕ}
use lib.IntN.{ℤ}
use Rattle.rules.specs.Message.{Bytes, Response}
use Rattle.rules.specs.Opening as O
use Rattle.rules.specs.Bench.{sized, opening}
use Rattle.openings.specs.Opening.{OpensAs}
use Rattle.openings.specs.declared.Opened.{Opened}
use Rattle.bench_turns.specs.Turn.{Lent, Opens}

-- an opening with another response and other memory
abbrev placed : O.Opening → Response → ℕ → ℕ → O.Opening
placed o m store slots = record {
  limit = o.limit;
  asked = o.asked;
  store_length = store;
  slots = slots;
  spec = o.spec;
  response = m;
  checksum = o.checksum;
  payload = o.payload;
  last_persisted_size = o.last_persisted_size;
}

pub opening_is : (limit capacity : ℕ) {p : ℤ} {m : Response} {store slots : ℕ} → m ≡ sized p → store ≡ 32768 → slots ≡ 64
    → placed (opening limit capacity p none) m store slots ≡ opening limit capacity p none
opening_is limit capacity {p} {m} {store} {slots} e f g =
    let o = opening limit capacity p none in
    ap (λ (x : Response). placed o x store slots) e ∙ ap (λ (n : ℕ). placed o (sized p) n slots) f ∙ ap (placed o (sized p) 32768) g

-- an opening that is an OP record's where the memory is the bench's
pub begun : {o : O.Opening} {limit capacity : ℕ} {p : ℤ} {store : Bytes} {table : List ℕ} {r : Opened} {store' : Bytes} {table' : List ℕ}
    → (Lent store table → o ≡ opening limit capacity p none) → OpensAs o store table r store' table' → Opens limit capacity p store table r store' table'
begun {store = store} {table} {r} {store'} {table'} e w l = subst (λ (y : O.Opening). OpensAs y store table r store' table') (e l) w
