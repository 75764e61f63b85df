-- What was read of an input comes to what the input does: it is the whole input, or both are longer than the longest sheet and refused by 31.
-- Assumes nothing.
use Rattle.std.specs.Prelude.{ℕ, min, ◌≤◌, ◌<◌, ◌≡◌, refl, Bool, true, false, not, List, leb, length, take, drop}
use Rattle.std.proofs.Common.{arith, sym, ap, ◌∙◌, leb-true, leb-false, length-take, length-take-le, take_all, take-take, take_at}
use Rattle.std.proofs.Math.Decide.{dec_lt}
use Rattle.std.proofs.Math.Seq.{length_front}
use Rattle.refusals.specs.Table.{refusal}
use Rattle.refusals.specs.Passed.{passed_records}
use Rattle.report.specs.Text.{ascii}
use Rattle.report.proofs.Examples.{no_sheet}
use Rattle.blocks.specs.Block.{block_length}
use Rattle.form.specs.declared.Form.{Form}
use Rattle.form.specs.declared.Form.TheVariants.{First, Second}
use Rattle.form.specs.Form.{most_blocks, form_in}
use Rattle.form.specs.Refusals.{length_right, open_table, sheet_refusal}
use Rattle.form.specs.Over.{over}
use Rattle.judging.specs.Judgement.{refused_for, judgement}
use Rattle.judgement.specs.Promise.{text_of, Printed, printed, TextPromise}
use Rattle.input.specs.Promise.{most_bytes, Read, Promise}

-- ---- what is longer than the longest sheet

-- no form has more blocks than the second
most_second : (f : Form) → most_blocks f ≤ most_blocks Second
most_second First = omega arith
most_second Second = omega arith

-- its length is wrong
longer_wrong : (sheet : List ℕ) (b : Bool) → length_right sheet ≡ b → most_bytes < length sheet → length_right sheet ≡ false
longer_wrong sheet true e l =
    let n = passed_records block_length 1 (most_blocks (form_in sheet)) sheet (ap not e) in
    absurd (omega (arith, n.0, n.1.1, most_second (form_in sheet), l))
longer_wrong sheet false e l = e

-- so it is refused by 31, whatever it holds
pub longer_refused : (sheet : List ℕ) → most_bytes < length sheet → judgement sheet ≡ refused_for (record { code = 31; place = 0 })
unfolding judgement sheet_refusal open_table refusal
longer_refused sheet l = rw (longer_wrong sheet (length_right sheet) refl l)

-- and has one text
pub longer_text : (sheet : List ℕ) → most_bytes < length sheet → text_of sheet ≡ ascii "refused 31 0\n"
unfolding refused_for text_of
longer_text sheet l = rw (longer_refused sheet l) no_sheet

-- ---- what was read

-- every input is read into every buffer, whatever it held
pub reads : (input lent : List ℕ) → Read input (over (take (length lent) input) lent) (min (length lent) (length input))
reads input lent =
    let read = min (length lent) (length input) in
    let front = take (length lent) input in
    let n : length front ≡ read = length-take (length lent) input in
    let k : length (over front lent) ≡ length lent = length_front lent front (length front) (sym (length-take-le (length front) lent (omega (arith, n)))) in
    record {
      many = rw k;
      front = take_at front (drop (length front) lent) read n ∙ sym (take_all read front (omega (arith, n))) ∙ take-take read (length lent) input (omega arith);
    }

module _ {input buffer : List ℕ} {read : ℕ} (room : most_bytes < length buffer) (r : Read input buffer read) where
  judgement_by : (b : Bool) → leb (length input) (length buffer) ≡ b → judgement (take read buffer) ≡ judgement input
  judgement_by true e =
      let l = leb-true (length input) (length buffer) e in
      ap judgement (r.front ∙ take_all read input (omega (arith, r.many, l)))
  judgement_by false e =
      let l = leb-false (length input) (length buffer) e in
      let n : length (take read buffer) ≡ read = length-take-le read buffer (omega (arith, r.many)) in
      longer_refused (take read buffer) (omega (arith, n, r.many, l, room)) ∙ sym (longer_refused input (omega (arith, l, room)))

  -- in a buffer with room for more than the longest sheet, it comes to what the input does
  pub read-judgement : judgement (take read buffer) ≡ judgement input
  read-judgement = judgement_by (leb (length input) (length buffer)) refl

  -- so it has the input's text
  pub read_text : text_of (take read buffer) ≡ text_of input
  unfolding text_of
  read_text = rw read-judgement

  -- which is what is printed
  read-printed : (lent : List ℕ) → printed (take read buffer) lent ≡ printed input lent
  unfolding printed
  read-printed lent = rw read_text

-- ---- the promise

-- no more of a buffer is taken than it has
take-least : (n : ℕ) (xs : List ℕ) → take (min n (length xs)) xs ≡ take n xs
take-least n xs = go (dec_lt (length xs) n)
  where
    go : Dec (length xs < n) → take (min n (length xs)) xs ≡ take n xs
    go (yes l) = let e : min n (length xs) ≡ length xs = omega (arith, l) in rw (e, take_all (length xs) xs (omega arith), take_all n xs (omega (arith, l)))
    go (no m) = let e : min n (length xs) ≡ n = omega (arith, m) in rw e

module _ {buffer : List ℕ} {read : ℕ} {lent : List ℕ} {o : Printed} (room : most_bytes < length buffer) where
  -- the text of what was read is that of every input
  pub promise_read : TextPromise (take read buffer) lent o → Promise buffer read lent o
  promise_read p =
      record {
        of_read = p;
        of_input = λ input r. let e = read-printed room r lent in record { bytes = rw (← e) p.bytes; text = rw (← e) p.text };
      }

  -- so is that of as much of it as the buffer has
  pub promise_least : {n : ℕ} → n ≡ min read (length buffer) → TextPromise (take n buffer) lent o → Promise buffer read lent o
  promise_least e p = promise_read (rw (e, take-least read buffer) at p)
