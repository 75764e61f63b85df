-- Document 02, C-21: where every region survives the colouring is mended to itself, and a sheet that is not refused and of which no region is lost is one that reading takes.
-- Assumes nothing.
use Rattle.std.specs.Prelude.{ℕ, ◌+◌, ◌-◌, ◌*◌, ◌/◌, ◌≤◌, ◌<◌, ◌≡◌, ◌≢◌, true, List, [], length, get_or}
use Rattle.std.proofs.Common.{zero-add, arith, ap, ◌∙◌, inl, inr}
use Rattle.std.proofs.Math.Decide.{dec_lt}
use Rattle.std.proofs.Math.Bool.{not-eq-not, and-eq-true_iff}
use borrow.Author.Tests.{eqb-true}
use Rattle.lists.specs.Sums.{In, at}
use Rattle.lists.specs.Places.{ext_at}
use Rattle.terms.specs.Plan.{within}
use Rattle.meaning.specs.Plan.{edges_of}
use Rattle.refusals.specs.declared.Refusal.{Refusal}
use Rattle.blocks.specs.Block.{most_payload, wrong}
use Rattle.blocks.specs.Section.{no_due}
use Rattle.blocks.specs.Sheet.{block_at}
use Rattle.blocks.specs.SheetLaws.{none-wrong, wrong-none}
use Rattle.form.specs.declared.Form.{Form}
use Rattle.form.specs.declared.Head.{Head}
use Rattle.form.specs.Form.{letters, dues, head_in, contents_in}
use Rattle.form.proofs.ContentsLaws.{counted_in}
use Rattle.form.specs.Firsts.{colouring_first, count_first}
use Rattle.form.specs.Accepted.{Opened, Accepted}
use Rattle.form.proofs.AcceptedLaws.{accepted}
use Rattle.mending.specs.Mended.{lost}
use Rattle.mending.specs.MendedLaws.{lost_listed, lost-none, mended-same}
use Rattle.salvage.specs.Surviving.{block_of_region, sound_at, survives, survivors, mended_in}
use Rattle.salvage.specs.SurvivingLaws.{length-survivors, survives-kept, lost_where}
use Rattle.salvage.specs.Promise.{salvage_refusal, salvaged_sheet}
use Rattle.salvage.specs.Anew.{as_they_are, head_anew, contents_anew}
use Rattle.salvage.specs.Sound.{salvaged_opened, salvaged_sound}

-- ---- where every region survives

-- the sector of every region of a sheet survives
abbrev pub AllSurvive : Form → List ℕ → Type 0
AllSurvive f sheet = (u : ℕ) → In (head_in f sheet).regions u → survives f sheet u ≡ true

module _ (f : Form) (sheet : List ℕ) (all : AllSurvive f sheet) where
  -- the colouring that survives is the sheet's
  survivors-same : survivors f sheet ≡ (contents_in f sheet).colouring
  survivors-same =
      ext_at (survivors f sheet) (contents_in f sheet).colouring (length-survivors f sheet) (counted_in f sheet).colouring (λ u i. (survives-kept f sheet u i (all u i)).0)

  -- and none of its numbers is 0
  kept : (u : ℕ) → In (length (survivors f sheet)) u → at (survivors f sheet) u ≢ 0
  kept u i = let r = rw (length-survivors f sheet) at i in (survives-kept f sheet u r (all u r)).1

  -- none is lost
  pub none-lost : lost (survivors f sheet) ≡ []
  none-lost = lost-none (survivors f sheet) kept

  -- so none is given another sector
  pub none-given : mended_in f sheet ≡ (contents_in f sheet).colouring
  none-given = mended-same (edges_of (contents_in f sheet).edges) (survivors f sheet) kept ∙ survivors-same

-- where none is lost, every region survives
all_survive : (f : Form) (sheet : List ℕ) → length (lost (survivors f sheet)) ≡ 0 → AllSurvive f sheet
all_survive f sheet e u i =
    not-eq-not.0 (λ n. let m = ((lost_listed (survivors f sheet)).exactly u).1 (rw (length-survivors f sheet) i, (lost_where f sheet u i).1 n) in omega (arith, m.below))

-- ---- where nothing is wrong with any block

-- the first region whose sector is in block k of the colouring
abbrev first_of : ℕ → ℕ
first_of k = most_payload * k + 1

-- of the blocks from block c on that hold the sectors of R regions, each has such a region
has_first : (R c n : ℕ) → c ≤ n → n < c + (R * 1 + most_payload - 1) / most_payload → In R (first_of (n - c)) × (c + (first_of (n - c) - 1) / most_payload ≡ n)
has_first R c n low high = let k : n - c < (R * 1 + most_payload - 1) / most_payload = omega arith in go (n - c) k (omega arith)
  where
    go : (k : ℕ) → k < (R * 1 + most_payload - 1) / most_payload → c + k ≡ n → In R (first_of k) × (c + (first_of k - 1) / most_payload ≡ n)
    go k h e = (record { low = omega arith; high = omega arith }, omega arith)

module _ (f : Form) (sheet : List ℕ) (bytes room : ℕ) (z : (salvage_refusal f sheet bytes room).code ≡ 0) (e : length (lost (survivors f sheet)) ≡ 0) where
  abbrev h : Head
  h = head_in f sheet

  abbrev new : List ℕ
  new = salvaged_sheet f sheet

  -- what is wrong with block n of a sheet, as the sheet's head has it due
  abbrev wrong_at : List ℕ → ℕ → ℕ
  wrong_at other n = let d = get_or (dues f h) n no_due in wrong (letters f) d.kind n d.used (block_at other n)

  -- the sheet is opened
  opened : Opened f sheet
  opened = salvaged_opened f sheet bytes room z

  -- reading takes the salvaged sheet
  taken : Accepted f new
  taken = accepted f new (ap (λ (r : Refusal). r.code) (salvaged_sound f sheet bytes room z))

  -- so nothing is wrong with any block of it
  right_anew : (n : ℕ) → n < length (dues f h) → wrong_at new n ≡ 0
  right_anew = rw (head_anew opened) at (none-wrong (letters f) (dues f (head_in f new)) new taken.sound)

  -- a block of the colouring holds the sector of a region, which survives
  right_own : (n : ℕ) → colouring_first f h ≤ n → n < count_first f h → wrong_at sheet n ≡ 0
  unfolding survives sound_at
  right_own n low high =
      let v = first_of (n - colouring_first f h) in
      let first = has_first h.regions (colouring_first f h) n low high in
      let s = ((and-eq-true_iff (sound_at f h sheet (block_of_region f h v)) (within 1 (at (contents_in f sheet).colouring v) h.sectors)).0 (all_survive f sheet e v first.0)).0 in
      eqb-true _ 0 (rw first.1 at s)

  -- and any other is as it is in the salvaged sheet
  right : (n : ℕ) → n < length (dues f h) → wrong_at sheet n ≡ 0
  right n k = go (dec_lt n (colouring_first f h)) (dec_lt n (count_first f h))
    where
      go : Dec (n < colouring_first f h) → Dec (n < count_first f h) → wrong_at sheet n ≡ 0
      go (yes b) m = rw (as_they_are opened n (inl b)) at (right_anew n k)
      go (no b) (yes m) = right_own n (omega arith) m
      go (no b) (no m) = rw (as_they_are opened n (inr (omega arith))) at (right_anew n k)

  -- a sheet that salvaging doesn't refuse, and of which no region is lost, is one that reading takes
  pub none-lost-accepted : Accepted f sheet
  none-lost-accepted =
      record {
        opened = opened;
        sound = ap (λ (r : Refusal). r.code) (wrong-none (letters f) 0 (dues f h) sheet (λ k m. rw (zero-add k) (right k m)));
        valid = rw (contents_anew opened, none-given f sheet (all_survive f sheet e)) at taken.valid;
      }
