-- Document 02, C-22: names of sectors, C-18, carry no weight in the figures over many sheets, and converting, C-13, keeps them.
-- Assumes nothing.
use Rattle.std.specs.Prelude.{ℕ, ◌≡◌, refl, List}
use Rattle.std.proofs.Common.{sym}
use Rattle.lists.specs.Pairs.{Pairs, pairs_turn}
use Rattle.meaning.specs.Names.{Renaming}
use Rattle.refusals.specs.Table.{refusal}
use Rattle.form.specs.declared.Form.{Form}
use Rattle.form.specs.Form.{form_in, contents_by}
use Rattle.form.specs.Refusals.{open_table}
use Rattle.form.proofs.Renamed.{RenamedSheet, SameFirst}
use Rattle.writing.specs.Promise.{Outcome}
use Rattle.conversion.specs.Promise.{Promise}
use Rattle.conversion.specs.Trips.{converted}
use Rattle.review.specs.Review.{review_of}
use Rattle.review.specs.Stream.{stream_of, printed_of}
use Rattle.review.specs.Same.{SameJudged, same_figures, same-printed}
use Rattle.demands.specs.RenamedSheets.{judgement-renamed, judgement_first}
use Rattle.demands.specs.Converted.{same-judgement}

-- the sheets of two offices at one place
pub data Offices (a b : List ℕ) : Type 0 where
  -- they differ in the names of sectors alone
  names : (p : ℕ → ℕ) → RenamedSheet (form_in a) p a b → Renaming (contents_by a).S p → Offices a b
  -- or their first blocks are the same, and they are refused for their length, head or number of blocks
  opening : SameFirst a b → ((refusal (open_table (form_in a) a)).code ≡ 0 → ⊥) → Offices a b

-- a sheet, and what it is kept as
pub data Kept (a : List ℕ) : List ℕ → Type 0 where
  -- it was converted
  turned : {from to : Form} {lent : List ℕ} {o : Outcome} → Promise from to a lent o → o.answer.code ≡ 0 → Kept a (converted o)
  -- or stays, as one that can't be
  stays : Kept a a

-- two offices' sheets come to the same
offices_judged : (a b : List ℕ) → Offices a b → SameJudged a b
offices_judged a b (names p s r) = sym (judgement-renamed s r)
offices_judged a b (opening s n) = sym (judgement_first s n)

-- and so does what a sheet is kept as
kept-judged : (a b : List ℕ) → Kept a b → SameJudged a b
kept-judged a b (turned p e) = sym (same-judgement p e)
kept-judged a b stays = refl

module _ {ss ts : List (List ℕ)} where
  -- two offices have the same figures
  pub figures_renamed : Pairs Offices ss ts → review_of ss ≡ review_of ts
  figures_renamed p = same_figures (pairs_turn offices_judged p)

  -- sheets of which some are converted, be it all that can be, have the same figures
  pub figures_converted : Pairs Kept ss ts → review_of ss ≡ review_of ts
  figures_converted p = same_figures (pairs_turn kept-judged p)

-- and of two inputs the same is printed, where 18 refuses the same place or none
module _ (input other : List ℕ) (e : (stream_of input).torn ≡ (stream_of other).torn) where
  pub printed-renamed : Pairs Offices (stream_of input).sheets (stream_of other).sheets → printed_of input ≡ printed_of other
  printed-renamed p = same-printed input other (pairs_turn offices_judged p) e

  pub printed-converted : Pairs Kept (stream_of input).sheets (stream_of other).sheets → printed_of input ≡ printed_of other
  printed-converted p = same-printed input other (pairs_turn kept-judged p) e
