-- Answers with their refusals as numbers. Assumes nothing.
use Rattle.std.proofs.Common.{◌≡◌, is_err, Ok, Err, Result, refl}
use Rattle.isa.specs.declared.refusal.Refusal.{Refusal}
use Rattle.isa.specs.Refusals.{numbered}

-- an answer is a refusal exactly if it is one as a number
pub err_numbered : {A : Type 0} → (r : Result A Refusal) → is_err (numbered r) ≡ is_err r
err_numbered (Ok x) = refl
err_numbered (Err e) = refl
