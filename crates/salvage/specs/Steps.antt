-- Salvaging, step by step: what is put down of a sheet whose contents are held, and that each way out leaves the outcome.
-- Assumes nothing.
use Rattle.std.specs.Prelude.{ℕ, ◌*◌, ◌≤◌, ◌<◌, ◌≡◌, refl, false, List, ◌++◌, length, take}
use Rattle.std.proofs.Common.{arith, ap, ◌∙◌, length-take-le}
use Rattle.std.proofs.Math.Path.{sym}
use borrow.Author.Tests.{ne_eqb, lt-leb, le-leb}
use Rattle.lists.specs.SumLaws.{every_append}
use Rattle.lists.specs.Fronts.{zeros, zeros_room}
use Rattle.meaning.specs.Plan.{edges_of, most_regions}
use Rattle.meaning.specs.Paths.{Ends, limits_ends}
use Rattle.packing.specs.Put.{put}
use Rattle.refusals.specs.declared.Refusal.{Refusal}
use Rattle.refusals.specs.Table.{refused, refusal}
use Rattle.refusals.specs.Passed.{passed_equal, front-given, front_passed}
use Rattle.refusals.specs.ButEight.{but_eight}
use Rattle.blocks.specs.Block.{block_length}
use Rattle.blocks.specs.Layout.{blocks_at, length_blocks}
use Rattle.form.specs.declared.Form.{Form}
use Rattle.form.specs.declared.Head.{Head}
use Rattle.form.specs.Form.{letters, colouring_layout, dues, Contents, coloured, form_in, head_in, contents_in}
use Rattle.form.proofs.FormLaws.{four_letters, laid_ones}
use Rattle.form.specs.Firsts.{colouring_first}
use Rattle.form.proofs.FirstLaws.{blocks_all}
use Rattle.form.specs.Over.{over, put_front, put-over-front}
use Rattle.form.specs.Recoloured.{recoloured_sheet}
use Rattle.form.proofs.ContentsLaws.{counted_in, valid_contents}
use Rattle.form.specs.Refusals.{open_table, contents_refusal}
use Rattle.form.specs.Accepted.{Opened}
use Rattle.form.proofs.AcceptedLaws.{open_passed}
use Rattle.holding.specs.Held.{contents_held}
use Rattle.mending.specs.Mended.{lost, mended}
use Rattle.salvage.specs.declared.Salvaged.{Salvaged}
use Rattle.salvage.specs.Surviving.{survivors, mended_in}
use Rattle.salvage.specs.SurvivingLaws.{length-survivors}
use Rattle.salvage.specs.Promise.{other_table, last_rows, salvage_refusal, salvaged_sheet, Outcome, left, refused_answer, salvaged_answer, outcome_of, Promise}
use Rattle.salvage.specs.Anew.{contents_anew}
use Rattle.salvage.specs.Sound.{refused_anew}
use Rattle.salvage.specs.Others.{Others, HoldsOthers}

-- ---- what is put down

-- a sheet's edges, the ends of which are regions, and what survives of its colouring
pub record Mendable (f : Form) (sheet : List ℕ) (h : Head) (edges surviving : List ℕ) : Type 0 where
  pub opened : Opened f sheet
  pub head : h ≡ head_in f sheet
  pub joined : edges ≡ (contents_in f sheet).edges
  pub survive : surviving ≡ survivors f sheet
  pub ends : Ends (length surviving) (edges_of edges)

module _ {f : Form} {sheet held : List ℕ} (o : Others f sheet held) where
  -- with the colouring mended nothing of the contents is refused, so that the ends of their edges are regions
  ends_regions : Ends (contents_in f sheet).R (edges_of (contents_in f sheet).edges)
  unfolding other_table
  ends_regions =
      let none = passed_equal (but_eight (contents_refusal f (contents_in f sheet)).code) 0 o.passed.1.1.0 in
      let k = coloured (contents_in f sheet) (mended_in f sheet) in
      limits_ends _ (valid_contents f k (rw (contents_anew o.opened) at (refused_anew o.opened ∙ none))).limits

  module _ {h : Head} (i : h ≡ head_in f sheet) where
    -- what is held are the sheet's contents
    own-contents : contents_held h held ≡ contents_in f sheet
    own-contents = rw i o.contents

    -- so the colouring that is held is the sheet's
    pub held-colouring : {colouring : List ℕ} → colouring ≡ (contents_held h held).colouring → colouring ≡ (contents_in f sheet).colouring
    held-colouring e = e ∙ ap (λ (k : Contents). k.colouring) own-contents

    -- and by the edges that are held what survives can be mended
    pub others_mendable : {edges surviving : List ℕ} → edges ≡ (contents_held h held).edges → surviving ≡ survivors f sheet → Mendable f sheet h edges surviving
    others_mendable e s =
        let own = e ∙ ap (λ (k : Contents). k.edges) own-contents in
        record { opened = o.opened; head = i; joined = own; survive = s; ends = rw (s, length-survivors f sheet, ← (counted_in f sheet).regions, own) ends_regions }

module _ {f : Form} {sheet : List ℕ} {h : Head} (o : Opened f sheet) (i : h ≡ head_in f sheet) where
  -- an array has room for a sector of each region
  pub regions_room : h.regions ≤ length (zeros most_regions)
  regions_room = zeros_room most_regions (rw i o.limits.regions.high)

  -- in its front
  pub regions_lent : length (take h.regions (zeros most_regions)) ≡ h.regions
  regions_lent = length-take-le h.regions (zeros most_regions) regions_room

  -- the sheet was put down at the front of the lent bytes, and then the colouring's blocks in it
  pub written_anew : (lent colouring : List ℕ) {bytes out : List ℕ} → bytes ≡ put lent 0 sheet
      → out ≡ put bytes (block_length * colouring_first f h) (blocks_at (letters f) (colouring_layout h) (colouring_first f h) colouring) → out ≡ over (recoloured_sheet f sheet colouring) lent
  written_anew lent colouring b e =
      let first = colouring_first f h in
      let blocks = blocks_at (letters f) (colouring_layout h) first colouring in
      let long : length sheet ≡ block_length * length (dues f h) = rw i o.long in
      let size = length_blocks (letters f) (four_letters f) (laid_ones 5 h.regions) first colouring in
      let there = put-over-front lent sheet (block_length * first) blocks (omega (arith, blocks_all f h)) in
      e ∙ rw (b, put_front lent sheet, there, i)

module _ {f : Form} {sheet : List ℕ} {h : Head} {edges surviving : List ℕ} (k : Mendable f sheet h edges surviving) where
  -- what survives has a number for each region
  pub length_surviving : length surviving ≡ h.regions
  length_surviving = ap length k.survive ∙ length-survivors f sheet ∙ ap (λ (g : Head). g.regions) (sym k.head)

  -- with the mended colouring it is the salvaged sheet that stands there
  pub written-mended : (lent : List ℕ) {back colouring out : List ℕ} → back ≡ mended (edges_of edges) surviving → colouring ≡ back → out ≡ over (recoloured_sheet f sheet colouring) lent
      → out ≡ over (salvaged_sheet f sheet) lent
  unfolding salvaged_sheet
  written-mended lent b c e = e ∙ rw (c, b, k.joined, k.survive)

-- ---- the ways out

module _ {f : Form} {sheet : List ℕ} (i : f ≡ form_in sheet) (bytes list : List ℕ) where
  -- the one outcome keeps the promise
  kept_promise : {o : Outcome} → o ≡ outcome_of f sheet bytes list → Promise sheet bytes list o
  kept_promise e = rw (e, i) (record { answer = refl; sheet_left = refl; list_left = refl })

  -- a salvaging that is refused leaves what is lent as it is
  untouched : {r : Refusal} {a : Salvaged} → salvage_refusal f sheet (length bytes) (length list) ≡ r → (r.code ≡ 0 → ⊥) → a ≡ refused_answer r → Promise sheet bytes list (left a bytes list)
  unfolding outcome_of
  untouched {r} e n a = kept_promise (rw (e, ne_eqb r.code 0 n, a))

  -- the sheet is refused, its colouring passed over
  pub promise_refused : {r : Refusal} {held : List ℕ} {a : Salvaged} → HoldsOthers f sheet r held → (r.code ≡ 0 → ⊥) → a ≡ refused_answer r → Promise sheet bytes list (left a bytes list)
  unfolding salvage_refusal
  promise_refused p n a =
      untouched (sym (p.refusal ∙ front-given (open_table f sheet ++ other_table f sheet) (last_rows f sheet (length bytes) (length list)) (rw p.refusal at n))) n a

  module _ {held : List ℕ} (o : Others f sheet held) where
    -- only what is lent is left to refuse
    rows_left : salvage_refusal f sheet (length bytes) (length list) ≡ refusal (last_rows f sheet (length bytes) (length list))
    unfolding salvage_refusal
    rows_left =
        let passed = every_append (λ r. r.given ≡ false) (open_table f sheet) (other_table f sheet) (open_passed o.opened) o.passed in
        sym (front_passed (open_table f sheet ++ other_table f sheet) (last_rows f sheet (length bytes) (length list)) passed)

    -- the lent bytes are too few
    pub promise_short : {a : Salvaged} → length bytes < length sheet → a ≡ refused_answer (refused 40 0) → Promise sheet bytes list (left a bytes list)
    unfolding refusal
    promise_short l a = untouched (rows_left ∙ rw (lt-leb (length sheet) (length bytes) l)) (λ e. omega arith) a

    module _ (l : length sheet ≤ length bytes) {surviving : List ℕ} (s : surviving ≡ survivors f sheet) {n : ℕ} (c : n ≡ length (lost surviving)) where
      -- so many are lost
      own-count : n ≡ length (lost (survivors f sheet))
      own-count = rw s at c

      -- the list's room is too little for the lost regions
      pub promise_crowded : {a : Salvaged} → length list < n → a ≡ refused_answer (refused 17 0) → Promise sheet bytes list (left a bytes list)
      unfolding refusal
      promise_crowded m a = untouched (rows_left ∙ rw (le-leb (length sheet) (length bytes) l, ← own-count, lt-leb n (length list) m)) (λ e. omega arith) a

      -- nothing is refused, and the salvaged sheet and the lost regions are put down
      pub promise_salvaged : {out gone : List ℕ} → n ≤ length list → out ≡ over (salvaged_sheet f sheet) bytes → gone ≡ over (lost (survivors f sheet)) list
          → Promise sheet bytes list (left (salvaged_answer n) out gone)
      unfolding refusal outcome_of
      promise_salvaged m w g =
          let none : (salvage_refusal f sheet (length bytes) (length list)).code ≡ 0 = rw (rows_left, le-leb (length sheet) (length bytes) l, ← own-count, le-leb n (length list) m) in
          kept_promise (rw (none, own-count, w, g))
