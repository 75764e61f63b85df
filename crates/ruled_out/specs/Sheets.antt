-- Wrong answers that the promises of the calls on a sheet's bytes rule out, where these are sheet A's, or sheet A's with a wrong letter in block 3.
-- Assumes nothing.
use Rattle.std.specs.Prelude.{ℕ, ◌+◌, ◌-◌, ◌*◌, ◌/◌, ◌≡◌, refl, cond, List, [], ◌∷◌, length, get_or, set}
use Rattle.std.proofs.Common.{arith, ap}
use Rattle.terms.specs.Plan.{within}
use Rattle.terms.specs.Distance.{stands, distance}
use Rattle.meaning.specs.Plan.{constraint_length, edges_of, constraints_of}
use Rattle.meaning.specs.Joined.{take_in, take_every, labels}
use Rattle.meaning.specs.Kinds.{ncc, ncc_all, load, whole, outside_area, border, counts, loads, deviation, connected, bounded, by_kind, total}
use Rattle.meaning.specs.Kinds as kinds
use Rattle.meaning.specs.Moves.{verdict_length, verdict, verdicts_of}
use Rattle.refusals.specs.Table.{refused, refusal}
use Rattle.blocks.specs.Block.{block_length, header, body, block_of, first_wrong, wrong}
use Rattle.form.specs.Form.{form_in, layouts, turned, numbers, sheet_of, head_in}
use Rattle.form.specs.Refusals.{open_table, held_table, sheet_refusal}
use Rattle.form.proofs.SheetA.{sheet_a}
use Rattle.judging.specs.Judgement.{Judgement, refused_for, judgement}
use Rattle.judgement.specs.Promise.{code, place, total_of, constraint_count, verdict_at, holds, violation, Promise}
use Rattle.judgement.specs.SheetA.{first_written}
use Rattle.ruled_out.specs.Bytes.{bytes_a}

-- sheet A with another first letter in block 3
abbrev spoiled_a : List ℕ
spoiled_a = set bytes_a (block_length * 3) 0

-- ---- what the two come to

-- sheet A: not refused, the total, how many constraints, the verdict on the last, and places outside the list
sound : code bytes_a ∷ place bytes_a ∷ total_of bytes_a ∷ constraint_count bytes_a ∷ holds bytes_a 4 ∷ violation bytes_a 4 ∷ holds bytes_a 0 ∷ violation bytes_a 5 ∷ [] ≡ 0 ∷ 0 ∷ 15 ∷ 4 ∷ 0 ∷ 5 ∷ 0 ∷ 0 ∷ []
unfolding sheet_a edges_of constraints_of stands distance take_in take_every labels ncc ncc_all load whole outside_area border counts loads deviation connected bounded by_kind kinds.violation kinds.holds total verdict verdicts_of verdict_at
sound = ap (λ (j : Judgement). j.refusal.code ∷ j.refusal.place ∷ j.total ∷ length j.constraints / constraint_length ∷ verdict_of j 0 4 ∷ verdict_of j 1 4 ∷ verdict_of j 0 0 ∷ verdict_of j 1 5 ∷ []) first_written
  where
    verdict_of : Judgement → ℕ → ℕ → ℕ
    verdict_of j number place = cond (within 1 place (length j.constraints / constraint_length)) (get_or j.verdicts (verdict_length * (place - 1) + number) 0) 0

-- with the wrong letter it is refused by 32 with place 3
spoiled : judgement spoiled_a ≡ refused_for (refused 32 3)
unfolding sheet_a sheet_of form_in head_in numbers layouts turned header body block_of open_table held_table sheet_refusal refusal wrong first_wrong judgement
spoiled = refl

-- number k of those that sheet A comes to
said : (k : ℕ) → get_or (code bytes_a ∷ place bytes_a ∷ total_of bytes_a ∷ constraint_count bytes_a ∷ holds bytes_a 4 ∷ violation bytes_a 4 ∷ holds bytes_a 0 ∷ violation bytes_a 5 ∷ []) k 0 ≡ get_or (0 ∷ 0 ∷ 15 ∷ 4 ∷ 0 ∷ 5 ∷ 0 ∷ 0 ∷ []) k 0
said k = ap (λ (ns : List ℕ). get_or ns k 0) sound

-- ---- the code and its place

-- `code` does not refuse sheet A
code_of_sound : Promise (code bytes_a) 31 → ⊥
code_of_sound p = omega (arith, p.answer, said 0)

-- nor does it let the wrong letter pass
code_let_through : Promise (code spoiled_a) 0 → ⊥
unfolding refused_for
code_let_through p = omega (arith, p.answer, ap (λ (j : Judgement). j.refusal.code) spoiled)

-- `place` does not name the block before
place-before : Promise (place spoiled_a) 2 → ⊥
unfolding refused_for
place-before p = omega (arith, p.answer, ap (λ (j : Judgement). j.refusal.place) spoiled)

-- nor does it name one of sheet A
place_of_sound : Promise (place bytes_a) 4 → ⊥
place_of_sound p = omega (arith, p.answer, said 1)

-- ---- the total and the constraints

-- `total` does not leave out the weight
total-unweighted : Promise (total_of bytes_a) 5 → ⊥
total-unweighted p = omega (arith, p.answer, said 2)

-- nor does it answer one for a sheet that is refused
total_of_refused : Promise (total_of spoiled_a) 15 → ⊥
unfolding refused_for
total_of_refused p = omega (arith, p.answer, ap (λ (j : Judgement). j.total) spoiled)

-- `constraints` does not count the numbers of the list
constraints_as_numbers : Promise (constraint_count bytes_a) 16 → ⊥
constraints_as_numbers p = omega (arith, p.answer, said 3)

-- nor does it count those of a sheet that is refused
constraints_of_refused : Promise (constraint_count spoiled_a) 4 → ⊥
unfolding refused_for
constraints_of_refused p = omega (arith, p.answer, ap (λ (j : Judgement). length j.constraints / constraint_length) spoiled)

-- ---- the verdicts

-- `holds` does not answer for constraint 4 what holds of its neighbour
holds_of_neighbour : Promise (holds bytes_a 4) 1 → ⊥
holds_of_neighbour p = omega (arith, p.answer, said 4)

-- nor does it take 0 for the place of the first
holds-from_0 : Promise (holds bytes_a 0) 1 → ⊥
holds-from_0 p = omega (arith, p.answer, said 6)

-- `violation` does not weigh it
violation-weighted : Promise (violation bytes_a 4) 15 → ⊥
violation-weighted p = omega (arith, p.answer, said 5)

-- nor does it answer the last one's for a place past the list
violation_past_last : Promise (violation bytes_a 5) 5 → ⊥
violation_past_last p = omega (arith, p.answer, said 7)
