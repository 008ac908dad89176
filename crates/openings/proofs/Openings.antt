-- What follows from what an opening promises.
-- Assumes nothing.
use mathlib.Core.Path.{◌≡◌, sym, ap, ◌∙◌}
use mathlib.Core.List.{List}
use Prim.Native.Nat.{ℕ}
use Rattle.rules.specs.Message.{Bytes}
use Rattle.rules.specs.Opening as O
use Rattle.transport.specs.View.{view}
use Rattle.openings.specs.Opening.{opened_of, OpensAs}
use Rattle.std.specs.declared.result.Result.{Result}
use Rattle.std.specs.Prelude.{Ok}
use Rattle.bidi_write.specs.declared.Refusal.{Refusal}
use Rattle.openings.specs.declared.Opened.{Opened}

-- an accepted opening leaves the rules' session
pub accepted_is : {o : O.Opening} {store : Bytes} {table : List ℕ} {r : Opened} {store' : Bytes} {table' : List ℕ} → OpensAs o store table r store' table'
    → r.answer ≡ Ok tt → O.opens o ≡ O.opened (view r.session store' table')
accepted_is {r} {store'} {table'} opens e = sym opens.opens_is ∙ ap (λ (a : Result (Unit {0}) Refusal). opened_of a (view r.session store' table')) e
