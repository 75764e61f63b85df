-- What is wrong with a block, as a function answers it: the fault has its code, and code 0 says that nothing is.
-- Assumes nothing.
use Rattle.std.specs.Prelude.{ℕ, ◌≡◌, ◌≢◌, refl, eqb, Result, Ok, Err, is_ok}
use Rattle.std.proofs.Common.{arith, sym, ne_eqb}
use Rattle.blocks.specs.declared.faults.Fault.{Fault}
use Rattle.blocks.specs.declared.faults.Fault.TheVariants.{Letters, Check, Due, Used, Zeros}

-- the codes in the order of the tests
abbrev pub fault_code : Fault → ℕ
fault_code Letters = 32
fault_code Check = 33
fault_code Due = 34
fault_code Used = 35
fault_code Zeros = 36

-- the code that is answered
abbrev pub code_of : Result Unit Fault → ℕ
code_of (Ok _) = 0
code_of (Err f) = fault_code f

-- no fault has code 0
pub fault_some : (f : Fault) → fault_code f ≢ 0
fault_some Letters e = absurd (omega arith)
fault_some Check e = absurd (omega arith)
fault_some Due e = absurd (omega arith)
fault_some Used e = absurd (omega arith)
fault_some Zeros e = absurd (omega arith)

-- so an Ok is what has code 0
pub ok_code : (r : Result Unit Fault) → is_ok r ≡ eqb (code_of r) 0
ok_code (Ok _) = refl
ok_code (Err f) = sym (ne_eqb (fault_code f) 0 (fault_some f))
