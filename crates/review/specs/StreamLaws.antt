-- What one step takes of an input, what stops it, and that an input made of sheets is read as those.
-- Assumes nothing.
use Rattle.std.specs.Prelude.{ℕ, zero, suc, ◌+◌, ◌*◌, ◌/◌, ◌%◌, ◌-◌, ◌≤◌, ◌<◌, ◌≡◌, refl, Bool, true, false, cond, ◌&&◌, Option, None, Some, List, [], ◌∷◌, ◌++◌, leb, length, take, drop}
use Rattle.std.proofs.Common.{arith, ap, subst, ◌∙◌, append-nil, append_assoc, le-leb, leb→le, length-append, take_at, drop_at}
use Rattle.std.proofs.Math.Bool.{and-false}
use Rattle.std.proofs.lemmas.Bool.{lt-leb}
use Rattle.std.proofs.lemmas.List.{take-append-le}
use Rattle.lists.specs.Sums.{In, Every}
use Rattle.terms.specs.Plan.{within}
use Rattle.refusals.specs.Passed.{both, in_limits}
use Rattle.packing.specs.Numbers.{le, length-le, val-le}
use Rattle.blocks.specs.Block.{block_length}
use Rattle.form.specs.declared.Form.TheVariants.{Second}
use Rattle.form.specs.Form.{most_blocks}
use Rattle.review.specs.declared.Announced.{Announced}
use Rattle.review.specs.declared.Announced.TheVariants.{Nothing, Wrong, Blocks}
use Rattle.review.specs.Stream.{most_sheets, count_length, said_by, count_right, announced_by, size_said, whole_sheet, Stream, stream_from, stream_of}

-- sheets, followed by what is read later
unfoldable pub followed : List (List ℕ) → Stream → Stream
followed sheets later = record { sheets = sheets ++ later.sheets; torn = later.torn }

-- no sheet more: 18 refuses the one at this place, where there is one
abbrev pub stop : Option ℕ → Stream
stop torn = record { sheets = []; torn = torn }

-- sheets, followed by nothing, are those sheets
pub followed-stop : (sheets : List (List ℕ)) (torn : Option ℕ) → followed sheets (stop torn) ≡ record { sheets = sheets; torn = torn }
unfolding followed
followed-stop sheets torn = rw (append-nil sheets)

-- ---- a count

-- what follows a count leaves its number
said-front : (count rest : List ℕ) → count_length ≤ length count → said_by (count ++ rest) ≡ said_by count
said-front count rest h = rw (take-append-le count_length count rest h)

-- and whether it is right
right_front : (count rest : List ℕ) → count_length ≤ length count → count_right (count ++ rest) ≡ count_right count
unfolding count_right
right_front count rest h =
    let n = le-leb count_length (length count) h in
    let m = le-leb count_length (length (count ++ rest)) (rw (length-append count rest) (omega arith)) in
    rw (n, m, said-front count rest h)

-- a right one has both bytes, and says 1 to 74
right_limits : (count : List ℕ) → count_right count ≡ true → (count_length ≤ length count) × In (most_blocks Second) (said_by count)
unfolding count_right
right_limits count e =
    let p = both (leb count_length (length count)) (within 1 (said_by count) (most_blocks Second)) (rw e tt) in
    (leb→le count_length (length count) p.0, in_limits (most_blocks Second) (said_by count) p.1)

-- no byte announces nothing
pub announced_none : (count : List ℕ) → length count ≡ 0 → announced_by count ≡ Nothing
unfolding announced_by
announced_none [] e = refl
announced_none (b ∷ bs) e = absurd (omega arith)

-- some bytes announce blocks where they are a right count
pub announced_some : (count : List ℕ) → 0 < length count → announced_by count ≡ cond (count_right count) (Blocks (said_by count)) Wrong
unfolding announced_by
announced_some [] h = absurd (omega arith)
announced_some (b ∷ bs) h = refl

-- what is known of a count by what it announces
Known : List ℕ → Announced → Type 0
Known count Nothing = count ≡ []
Known count Wrong = (0 < length count) × (count_right count ≡ false)
Known count (Blocks blocks) = (count_right count ≡ true) × (said_by count ≡ blocks)

announced_known : (count : List ℕ) → Known count (announced_by count)
unfolding announced_by Known
announced_known [] = refl
announced_known (b ∷ bs) = go (count_right (b ∷ bs)) refl
  where
    go : (r : Bool) → count_right (b ∷ bs) ≡ r → Known (b ∷ bs) (cond r (Blocks (said_by (b ∷ bs))) Wrong)
    go true e = (e, refl)
    go false e = (omega arith, e)

-- where nothing is announced, there is no byte
pub nothing_none : (count : List ℕ) → announced_by count ≡ Nothing → count ≡ []
unfolding Known
nothing_none count e = subst (Known count) e (announced_known count)

-- where it is wrong, there is a byte, and no right count
wrong_some : (count : List ℕ) → announced_by count ≡ Wrong → (0 < length count) × (count_right count ≡ false)
unfolding Known
wrong_some count e = subst (Known count) e (announced_known count)

-- two bytes are a right count, and announce so many blocks
pub record Counted (count : List ℕ) (blocks : ℕ) : Type 0 where
  pub both_bytes : length count ≡ count_length
  pub right : count_right count ≡ true
  pub said : said_by count ≡ blocks
  pub few : blocks ≤ most_blocks Second

-- they do where these blocks are announced
pub blocks_counted : (count : List ℕ) (blocks : ℕ) → length count ≤ count_length → announced_by count ≡ Blocks blocks → Counted count blocks
unfolding Known
blocks_counted count blocks n e =
    let k : (count_right count ≡ true) × (said_by count ≡ blocks) = subst (Known count) e (announced_known count) in
    let l = right_limits count k.0 in
    record { both_bytes = omega (arith, l.0); right = k.0; said = k.1; few = omega (arith, k.1, l.1.high) }

-- a whole sheet stands at the front where the count is right and enough comes after it
whole-front :
    (count rest : List ℕ) → count_length ≤ length count
    → whole_sheet (count ++ rest) ≡ (count_right count && leb (count_length + size_said count) (length count + length rest))
unfolding whole_sheet
whole-front count rest h = rw (right_front count rest h, said-front count rest h, length-append count rest)

-- ---- one step

-- where no byte is left, the input ends well
stream_none : (left place : ℕ) → stream_from left place [] ≡ stop None
unfolding stream_from
stream_none zero place = refl
stream_none (suc left) place = refl

-- so it does where nothing is announced
pub stream_nothing : (left place : ℕ) (count : List ℕ) → announced_by count ≡ Nothing → stream_from left place count ≡ stop None
stream_nothing left place count e = rw (nothing_none count e) (stream_none left place)

-- where no sheet is left to read, the bytes are not
pub stream_full : (place : ℕ) (bytes : List ℕ) → stream_from 0 place bytes ≡ stop None
unfolding stream_from
stream_full place bytes = refl

-- else a whole sheet at the front is taken
stream_whole :
    (left place : ℕ) (bytes : List ℕ) → 0 < length bytes → whole_sheet bytes ≡ true → let rest = drop count_length bytes in
    stream_from (suc left) place bytes ≡ followed (take (size_said bytes) rest ∷ []) (stream_from left (suc place) (drop (size_said bytes) rest))
unfolding stream_from followed
stream_whole left place [] h e = absurd (omega arith)
stream_whole left place (b ∷ bytes) h e = rw e

-- and reading stops where none is there
pub stream_torn : (left place : ℕ) (bytes : List ℕ) → 0 < length bytes → whole_sheet bytes ≡ false → stream_from (suc left) place bytes ≡ stop (Some place)
unfolding stream_from
stream_torn left place [] h e = absurd (omega arith)
stream_torn left place (b ∷ bytes) h e = rw e

-- a right count, its sheet and a rest: that sheet, then what is read of the rest
pub stream_sheet :
    (left place : ℕ) {count : List ℕ} {blocks : ℕ} → Counted count blocks → (sheet rest : List ℕ) → length sheet ≡ block_length * blocks
    → stream_from (suc left) place (count ++ (sheet ++ rest)) ≡ followed (sheet ∷ []) (stream_from left (suc place) rest)
stream_sheet left place {count} c sheet rest k =
    let two : count_length ≤ length count = omega (arith, c.both_bytes) in
    let size : length sheet ≡ size_said count = rw c.said k in
    let enough : count_length + size_said count ≤ length count + length (sheet ++ rest) = rw (length-append sheet rest) (omega (arith, c.both_bytes)) in
    let some : 0 < length (count ++ (sheet ++ rest)) = rw (length-append count (sheet ++ rest)) (omega arith) in
    stream_whole left place (count ++ (sheet ++ rest)) some (whole-front count (sheet ++ rest) two ∙ rw (c.right, le-leb _ _ enough))
    ∙ rw (
      said-front count (sheet ++ rest) two,
      drop_at count (sheet ++ rest) count_length c.both_bytes,
      take_at sheet rest (size_said count) size,
      drop_at sheet rest (size_said count) size,
    )

-- a wrong count, and no more
pub stream_ended : (left place : ℕ) (count : List ℕ) → announced_by count ≡ Wrong → stream_from (suc left) place count ≡ stop (Some place)
unfolding whole_sheet
stream_ended left place count e = let w = wrong_some count e in stream_torn left place count w.0 (rw w.1)

-- a wrong count that has both bytes, whatever follows it
pub stream_wrong :
    (left place : ℕ) (count rest : List ℕ) → count_length ≤ length count → announced_by count ≡ Wrong
    → stream_from (suc left) place (count ++ rest) ≡ stop (Some place)
stream_wrong left place count rest h e =
    let some : 0 < length (count ++ rest) = rw (length-append count rest) (omega arith) in
    stream_torn left place (count ++ rest) some (whole-front count rest h ∙ rw (wrong_some count e).1)

-- a right count, and too few bytes after it
pub stream_cut :
    (left place : ℕ) {count : List ℕ} {blocks : ℕ} → Counted count blocks → (sheet : List ℕ) → length sheet < block_length * blocks
    → stream_from (suc left) place (count ++ sheet) ≡ stop (Some place)
stream_cut left place {count} c sheet k =
    let two : count_length ≤ length count = omega (arith, c.both_bytes) in
    let some : 0 < length (count ++ sheet) = rw (length-append count sheet) (omega arith) in
    let few : length count + length sheet < count_length + size_said count = omega (arith, c.both_bytes, c.said) in
    stream_torn left place (count ++ sheet) some (whole-front count sheet two ∙ rw (lt-leb _ _ few, and-false (count_right count)))

-- ---- an input made of sheets

-- a sheet that a count can announce: 1 to 74 whole blocks
abbrev pub WholeBlocks : List ℕ → Type 0
WholeBlocks sheet = (length sheet % block_length ≡ 0) × In (most_blocks Second) (length sheet / block_length)

-- the block count of a sheet, as two bytes
abbrev pub count_of : List ℕ → List ℕ
count_of sheet = le count_length (length sheet / block_length)

-- sheet after sheet, each preceded by its block count
unfoldable pub input_of : List (List ℕ) → List ℕ
input_of [] = []
input_of (s ∷ ss) = count_of s ++ (s ++ input_of ss)

-- the count says how many blocks the sheet has
count-said : (sheet : List ℕ) → WholeBlocks sheet → said_by (count_of sheet) ≡ length sheet / block_length
count-said sheet a = val-le count_length (length sheet / block_length) (omega (arith, a.1.high))

-- and is right
count_of_lem : (sheet : List ℕ) → WholeBlocks sheet → Counted (count_of sheet) (length sheet / block_length)
unfolding count_right
count_of_lem sheet a =
    record {
      both_bytes = length-le count_length (length sheet / block_length);
      right = rw (count-said sheet a, le-leb 1 _ a.1.low, le-leb _ (most_blocks Second) a.1.high);
      said = count-said sheet a;
      few = a.1.high;
    }

-- the sheets are read, and then what follows them
stream_input :
    (sheets : List (List ℕ)) → Every WholeBlocks sheets → (left place : ℕ) (rest : List ℕ)
    → stream_from (length sheets + left) place (input_of sheets ++ rest) ≡ followed sheets (stream_from left (length sheets + place) rest)
unfolding input_of followed
stream_input [] a left place rest = let e : 0 + left ≡ left = omega arith in let f : 0 + place ≡ place = omega arith in rw (e, f)
stream_input (s ∷ ss) a left place rest =
    let e : suc (length ss) + left ≡ suc (length ss + left) = omega arith in
    let f : suc (length ss) + place ≡ length ss + suc place = omega arith in
    let size : length s ≡ block_length * (length s / block_length) = omega (arith, a.0.0) in
    rw (e, f, append_assoc s (input_of ss) rest)
    (stream_sheet (length ss + left) place (count_of_lem s a.0) s (input_of ss ++ rest) size
    ∙ ap (followed (s ∷ [])) (stream_input ss a.1 left (suc place) rest))

-- so it is for an input's sheets
stream_written :
    (sheets : List (List ℕ)) → Every WholeBlocks sheets → length sheets ≤ most_sheets → (rest : List ℕ)
    → stream_of (input_of sheets ++ rest) ≡ followed sheets (stream_from (most_sheets - length sheets) (suc (length sheets)) rest)
stream_written sheets a h rest =
    let e : most_sheets ≡ length sheets + (most_sheets - length sheets) = omega arith in
    let f : length sheets + 1 ≡ suc (length sheets) = omega arith in
    ap (λ n. stream_from n 1 (input_of sheets ++ rest)) e ∙ stream_input sheets a (most_sheets - length sheets) 1 rest ∙ rw f

-- the sheets alone: they are read, and none is refused
pub written-alone : (sheets : List (List ℕ)) → Every WholeBlocks sheets → length sheets ≤ 1_000 → stream_of (input_of sheets) ≡ record { sheets = sheets; torn = None }
written-alone sheets a h =
    rw (← append-nil (input_of sheets))
    (stream_written sheets a h [] ∙ rw (stream_none (most_sheets - length sheets) (suc (length sheets))) (followed-stop sheets None))

-- as many as are read: the same, whatever follows them
pub written_full :
    (sheets : List (List ℕ)) → Every WholeBlocks sheets → length sheets ≡ 1_000 → (rest : List ℕ)
    → stream_of (input_of sheets ++ rest) ≡ record { sheets = sheets; torn = None }
written_full sheets a h rest =
    let e : most_sheets - length sheets ≡ 0 = omega arith in
    stream_written sheets a (omega arith) rest ∙ rw (e, stream_full (suc (length sheets)) rest) (followed-stop sheets None)

-- fewer, and after them bytes that are no whole sheet: 18 refuses the next place
pub written_torn :
    (sheets : List (List ℕ)) → Every WholeBlocks sheets → length sheets < 1_000 → (rest : List ℕ) → 0 < length rest → whole_sheet rest ≡ false
    → stream_of (input_of sheets ++ rest) ≡ record { sheets = sheets; torn = Some (suc (length sheets)) }
written_torn sheets a h rest n w =
    let left = most_sheets - suc (length sheets) in
    let e : most_sheets - length sheets ≡ suc left = omega arith in
    stream_written sheets a (omega arith) rest
    ∙ rw (e, stream_torn left (suc (length sheets)) rest n w) (followed-stop sheets (Some (suc (length sheets))))
