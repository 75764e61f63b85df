-- What the program `figures` has read at a place, and what it may answer.
-- Assumes nothing.
use Prim.Native.Nat.{ℕ, suc, ◌+◌, ◌-◌, ◌*◌, ◌≤◌, ◌<◌}
use Rattle.std.proofs.Math.Decide.{dec_lt}
use Rattle.std.proofs.Math.Numerals.{add-one}
use native.Mathlib.Omega.{arith}
use Rattle.std.specs.Prelude.{◌≡◌, refl, Option, None, Some, length}
use Rattle.std.proofs.Common.{sym, ap, ◌∙◌, length-append}
use mathlib.Core.List.{List, [], ◌∷◌, ◌++◌, append_assoc}
use Rattle.blocks.specs.Block.{block_length}
use Rattle.review.specs.declared.Announced.TheVariants.{Nothing, Wrong}
use Rattle.review.specs.declared.Review.{Review}
use Rattle.review.specs.declared.Reviewed.{Reviewed}
use Rattle.review.specs.Review.{review_of}
use Rattle.review.specs.Stream.{most_sheets, count_length, announced_by, Stream, stream_from, stream_of, reviewed}
use Rattle.review.specs.StreamLaws.{followed, stop, Counted, followed-stop, stream_nothing, stream_full, stream_sheet, stream_ended, stream_wrong, stream_cut}
use Rattle.review.specs.Next.{next, Taken, review_next}

-- the sheets before a place are read, and the figures are those over them
pub record SoFar (place : ℕ) (r : Review) : Type 0 where
  -- bytes: in the program's loop those that were read
  pub input : List ℕ
  -- the sheets in them
  pub sheets : List (List ℕ)
  pub many : suc (length sheets) ≡ place
  pub figures : r ≡ review_of sheets
  -- an input that goes on from there: those sheets, then what is read of the rest
  pub goes_on : (rest : List ℕ) → stream_of (input ++ rest) ≡ followed sheets (stream_from (suc most_sheets - place) place rest)

-- the answer is what some bytes come to
pub data Answers (o : Reviewed) : Type 0 where
  -- as a whole input
  whole : (input : List ℕ) → o ≡ reviewed input → Answers o
  -- or as the front of one, whatever follows
  front : (input : List ℕ) → ((rest : List ℕ) → o ≡ reviewed (input ++ rest)) → Answers o

-- ---- sheet after sheet

-- nothing is read yet
pub so_far_none : SoFar 1 (review_of [])
unfolding followed
so_far_none = record { input = []; sheets = []; many = refl; figures = refl; goes_on = λ rest. refl }

module _ {place : ℕ} {r : Review} (s : SoFar place r) where
  -- what is read makes the figures' sheets
  pub so_far_taken : Taken place r
  so_far_taken = record { sheets = s.sheets; many = s.many; figures = s.figures }

  -- a count and its sheet come after what is read
  goes_next :
      {count : List ℕ} {blocks : ℕ} → place ≤ most_sheets → Counted count blocks → (sheet : List ℕ) → length sheet ≡ block_length * blocks → (rest : List ℕ)
      → stream_of (s.input ++ (count ++ sheet) ++ rest) ≡ followed (s.sheets ++ (sheet ∷ [])) (stream_from (suc most_sheets - (place + 1)) (place + 1) rest)
  unfolding followed
  goes_next {count} p c sheet k rest =
      let e : suc most_sheets - place ≡ suc (suc most_sheets - (place + 1)) = omega arith in
      rw (append_assoc s.input (count ++ sheet) rest, append_assoc count sheet rest, append_assoc s.sheets (sheet ∷ []))
      (s.goes_on (count ++ (sheet ++ rest)) ∙ rw (e, stream_sheet (suc most_sheets - (place + 1)) place c sheet rest k, add-one place))

  -- with one sheet more
  pub so_far_next :
      {count : List ℕ} {blocks : ℕ} → place ≤ most_sheets → Counted count blocks → (sheet : List ℕ) → length sheet ≡ block_length * blocks
      → SoFar (place + 1) (next r place sheet)
  so_far_next {count} p c sheet k =
      record {
        input = s.input ++ (count ++ sheet);
        sheets = s.sheets ++ (sheet ∷ []);
        many = omega (arith, length-append s.sheets (sheet ∷ []), s.many);
        figures = rw (s.figures, ← s.many) (sym (review_next s.sheets sheet));
        goes_on = goes_next p c sheet k;
      }

  -- ---- the ends

  -- what the figures come to, where nothing more is taken of the bytes that follow
  ends : (rest : List ℕ) (torn : Option ℕ) → stream_from (suc most_sheets - place) place rest ≡ stop torn → record { review = r; torn = torn } ≡ reviewed (s.input ++ rest)
  unfolding reviewed
  ends rest torn e =
      let of : Stream → Reviewed = λ t. record { review = review_of t.sheets; torn = t.torn } in
      rw s.figures (sym (ap of (s.goes_on rest ∙ rw e (followed-stop s.sheets torn))))

  -- all sheets are read that may be
  pub ends_full : most_sheets < place → Answers (record { review = r; torn = None })
  ends_full h =
      let e : suc most_sheets - place ≡ 0 = omega arith in
      front s.input (λ rest. ends rest None (rw e (stream_full place rest)))

  -- no byte is read where a count is due
  pub ends_well : (count : List ℕ) → announced_by count ≡ Nothing → Answers (record { review = r; torn = None })
  ends_well count e = whole (s.input ++ count) (ends count None (stream_nothing (suc most_sheets - place) place count e))

  module _ (p : place ≤ most_sheets) where
    one_more : suc most_sheets - place ≡ suc (most_sheets - place)
    one_more = omega arith

    -- a count that is not right
    pub ends_count : (count : List ℕ) → announced_by count ≡ Wrong → Answers (record { review = r; torn = Some place })
    ends_count count e = go (dec_lt (length count) count_length)
      where
        go : Dec (length count < count_length) → Answers (record { review = r; torn = Some place })
        go (yes k) = whole (s.input ++ count) (ends count (Some place) (rw one_more (stream_ended (most_sheets - place) place count e)))
        go (no k) =
            front (s.input ++ count)
            (λ rest. rw (append_assoc s.input count rest) (ends (count ++ rest) (Some place) (rw one_more (stream_wrong (most_sheets - place) place count rest (omega arith) e))))

    -- a right count, and fewer bytes than its sheet has
    pub ends_cut : {count : List ℕ} {blocks : ℕ} → Counted count blocks → (sheet : List ℕ) → length sheet < block_length * blocks → Answers (record { review = r; torn = Some place })
    ends_cut {count} c sheet k = whole (s.input ++ (count ++ sheet)) (ends (count ++ sheet) (Some place) (rw one_more (stream_cut (most_sheets - place) place c sheet k)))
