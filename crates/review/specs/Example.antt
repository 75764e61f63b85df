-- What is printed of no input, of inputs that end badly, and of sheet A among others.
-- Assumes nothing.
use Rattle.std.specs.Prelude.{ℕ, suc, ◌≡◌, refl, cond, Some, List, [], ◌∷◌, ◌++◌, eqb, length, replicate}
use Rattle.std.proofs.Common.{arith, ap₂, ◌∙◌}
use Rattle.lists.specs.Sums.{Every}
use Rattle.terms.specs.Distance.{stands, distance}
use Rattle.meaning.specs.Plan.{edges_of, visits_of, flights_of, constraints_of}
use Rattle.meaning.specs.Joined.{take_in, take_every, labels}
use Rattle.meaning.specs.Kinds.{ncc, ncc_all, load, whole, outside_area, border, counts, loads, deviation, connected, bounded, dwelling, by_kind, total}
use Rattle.meaning.specs.Kinds as kinds
use Rattle.meaning.specs.Stretches.{before, stretches}
use Rattle.meaning.specs.Moves.{verdict, verdicts_of}
use Rattle.refusals.specs.Table.{refused, refusal}
use Rattle.blocks.specs.Block.{block_length, header, body, block_of, first_wrong, wrong}
use Rattle.report.specs.Decimal.{decimal, spelled}
use Rattle.report.specs.Text.{ascii, number, number_lines, refused_text}
use Rattle.form.specs.declared.Form.TheVariants.{First, Second}
use Rattle.form.specs.Form.{form_in, layouts, turned, sheet_of}
use Rattle.form.specs.Form as form
use Rattle.form.specs.Refusals.{open_table, sheet_refusal}
use Rattle.form.proofs.SheetA.{sheet_a, flown_a}
use Rattle.judging.specs.Judgement.{Judgement, refused_for, judgement}
use Rattle.judgement.specs.SheetA.{first_written, second_written}
use Rattle.review.specs.declared.Review.{Review}
use Rattle.review.specs.Review.{failing, extreme, better, extreme_from, review_of}
use Rattle.review.specs.Next.{with_failed, with_refused, with_sound, next, review_next}
use Rattle.review.specs.StreamLaws.{WholeBlocks, input_of, written_torn}
use Rattle.review.specs.Stream.{count_right, whole_sheet, stream_from, reviewed, numbers, review_text, printed_of}

-- ---- inputs that hold no sheet

-- no input at all
pub no_input : printed_of [] ≡ ascii "0\n0\n0\n0\n0\n0\n0\n0\n0\n0\n0\n0\n"
unfolding decimal spelled number extreme_from review_of stream_from reviewed numbers number_lines review_text
no_input = refl

-- a count of 0
no_block : printed_of (0 ∷ 0 ∷ 7 ∷ []) ≡ ascii "0\n0\n0\n0\n0\n0\n0\n0\n0\n0\n0\n0\nrefused 18 1\n"
unfolding decimal spelled number refused_text extreme_from review_of count_right whole_sheet stream_from reviewed numbers number_lines review_text
no_block = refl

-- a count of 75
block_too_many : printed_of (75 ∷ 0 ∷ 7 ∷ []) ≡ ascii "0\n0\n0\n0\n0\n0\n0\n0\n0\n0\n0\n0\nrefused 18 1\n"
unfolding decimal spelled number refused_text extreme_from review_of count_right whole_sheet stream_from reviewed numbers number_lines review_text
block_too_many = refl

-- an input that ends inside a count
half_count : printed_of (1 ∷ []) ≡ ascii "0\n0\n0\n0\n0\n0\n0\n0\n0\n0\n0\n0\nrefused 18 1\n"
unfolding decimal spelled number refused_text extreme_from review_of count_right whole_sheet stream_from reviewed numbers number_lines review_text
half_count = refl

-- and one that ends inside a sheet
half_sheet : printed_of (1 ∷ 0 ∷ 7 ∷ []) ≡ ascii "0\n0\n0\n0\n0\n0\n0\n0\n0\n0\n0\n0\nrefused 18 1\n"
unfolding decimal spelled number refused_text extreme_from review_of count_right whole_sheet stream_from reviewed numbers number_lines review_text
half_sheet = refl

-- ---- the lines

-- each number stands in its own line
pub twelve_lines :
    numbers (record { sound = 1; refused = 2; zero = 3; failed = 4 ∷ 5 ∷ 6 ∷ 7 ∷ 8 ∷ []; smallest = Some (extreme 9 10); largest = Some (extreme 11 12) })
    ≡ 1 ∷ 2 ∷ 3 ∷ 4 ∷ 5 ∷ 6 ∷ 7 ∷ 8 ∷ 9 ∷ 10 ∷ 11 ∷ 12 ∷ []
unfolding numbers
twelve_lines = refl

-- ---- sheet A with faces to the outside and a flight, two blocks of zeros, sheet A twice, and a count of 0

-- a block of zeros
abbrev pub zeros : List ℕ
zeros = replicate block_length 0

-- it has not the letters of a sheet
pub zeros-refused : judgement zeros ≡ refused_for (refused 32 0)
unfolding form_in open_table sheet_refusal refusal wrong first_wrong judgement
zeros-refused = refl

-- the sheets before the last
abbrev pub first_four : List (List ℕ)
first_four = sheet_of Second flown_a ∷ zeros ∷ zeros ∷ sheet_of First sheet_a ∷ []

-- and the last
abbrev pub worked : List (List ℕ)
worked = first_four ++ (sheet_of First sheet_a ∷ [])

-- the input
abbrev pub worked_input : List ℕ
worked_input = input_of worked ++ (0 ∷ 0 ∷ [])

-- the figures after a sheet that comes to this
abbrev after : Review → ℕ → Judgement → Review
after r place j = cond (eqb j.refusal.code 0) (with_sound r (with_failed r.failed j.constraints j.verdicts) j.total place) (with_refused r)

one_more : (ss : List (List ℕ)) (s : List ℕ) (r : Review) (j : Judgement) → review_of ss ≡ r → judgement s ≡ j
    → review_of (ss ++ (s ∷ [])) ≡ after r (suc (length ss)) j
unfolding next
one_more ss s r j e f = review_next ss s ∙ ap₂ (λ r j. after r (suc (length ss)) j) e f

-- three are sound; sheet A's total of 15 is the smallest, first at place 4, and the largest is 53 at place 1
pub worked_figures : review_of worked
    ≡ record { sound = 3; refused = 2; zero = 0; failed = 0 ∷ 1 ∷ 0 ∷ 3 ∷ 1 ∷ []; smallest = Some (extreme 15 4); largest = Some (extreme 53 1) }
unfolding sheet_a flown_a edges_of visits_of flights_of constraints_of stands distance take_in take_every labels before stretches ncc ncc_all load whole outside_area border counts loads deviation connected bounded dwelling by_kind kinds.violation kinds.holds total verdict verdicts_of refused_for failing better extreme_from review_of with_failed with_refused with_sound
worked_figures =
    let a = sheet_of First sheet_a in
    let f = sheet_of Second flown_a in
    let one = one_more [] f _ _ refl second_written in
    let two = one_more (f ∷ []) zeros _ _ one zeros-refused in
    let three = one_more (f ∷ zeros ∷ []) zeros _ _ two zeros-refused in
    let four = one_more (f ∷ zeros ∷ zeros ∷ []) a _ _ three first_written in
    one_more first_four a _ _ four first_written

-- each has 1 to 74 blocks
worked_announced : Every WholeBlocks worked
unfolding flown_a sheet_of form.numbers layouts turned header body block_of
worked_announced =
    let a : WholeBlocks (sheet_of First sheet_a) = (refl, record { low = omega arith; high = omega arith }) in
    let z : WholeBlocks zeros = (refl, record { low = omega arith; high = omega arith }) in
    let f : WholeBlocks (sheet_of Second flown_a) = (refl, record { low = omega arith; high = omega arith }) in
    (f, (z, (z, (a, (a, tt)))))

-- the figures, one a line, then that the sixth is refused
pub worked-printed : printed_of worked_input ≡ ascii "3\n2\n0\n0\n1\n0\n3\n1\n15\n4\n53\n1\nrefused 18 6\n"
unfolding decimal spelled number refused_text count_right whole_sheet reviewed numbers number_lines review_text
worked-printed = rw (written_torn worked worked_announced (omega arith) (0 ∷ 0 ∷ []) (omega arith) refl, worked_figures)
