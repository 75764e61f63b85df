-- A list put down in a part of another, and a loop that puts it down piece by piece.
-- Assumes nothing.
use Rattle.std.specs.Prelude.{ℕ, ◌+◌, ◌≤◌, ◌<◌, ◌≡◌, refl, take, drop, set}
use Rattle.std.proofs.Common.{add-zero, add-one, arith, ◌∙◌, length-set, take-append-drop, length-take-le}
use Rattle.std.proofs.Math.Path.{sym, ap}
use mathlib.Core.List.{List, [], ◌∷◌, ◌++◌, append_assoc, append-nil}
use Rattle.std.proofs.Math.ListN.{length, length-append}
use Rattle.std.proofs.Math.Seq.{sets, length-sets, sets-eq}
use Rattle.lists.specs.ListLaws.{sets_append}
use Rattle.packing.specs.Part.{part, part_middle}

module _ {A : Type 0} where
  -- d with the elements of s from index `at` on; what lies before and beyond stays
  unfoldable pub put : List A → ℕ → List A → List A
  put d at s = take at d ++ s ++ drop (at + length s) d

  -- ---- what it comes to

  -- it is as long as d
  pub length-put : (d : List A) (at : ℕ) (s : List A) → at + length s ≤ length d → length (put d at s) ≡ length d
  unfolding put
  length-put d at s h = ap length (sym (sets-eq s d at h)) ∙ length-sets d at s

  -- nothing put down changes nothing
  pub put-none : (d : List A) (at : ℕ) → put d at [] ≡ d
  unfolding put
  put-none d at = rw (add-zero at, append-nil (take at d)) (take-append-drop at d)

  -- one element put down is a store
  pub set-put : (d : List A) (at : ℕ) (a : A) → at < length d → set d at a ≡ put d at (a ∷ [])
  unfolding put
  set-put d at a h = sets-eq (a ∷ []) d at (omega arith)

  -- what is put down is there
  pub part-put : (d : List A) (at : ℕ) (s : List A) → at ≤ length d → part at (at + length s) (put d at s) ≡ s
  unfolding put
  part-put d at s h =
      ap (part at (at + length s)) (append_assoc (take at d) s (drop (at + length s) d))
      ∙ part_middle (take at d) s (drop (at + length s) d) at (at + length s) (length-take-le at d h) (omega arith)

  -- one list put down after another is both put down
  pub put-put : (d : List A) (at : ℕ) (s t : List A) → at + length (s ++ t) ≤ length d → put (put d at s) (at + length s) t ≡ put d at (s ++ t)
  unfolding put
  put-put d at s t h =
      let n = length-append s t in
      let e : put d at s ≡ sets d at s = sym (sets-eq s d at (omega arith)) in
      let m : length (sets d at s) ≡ length d = length-sets d at s in
      ap (λ (l : List A). put l (at + length s) t) e
      ∙ sym (sets-eq t (sets d at s) (at + length s) (omega arith))
      ∙ sym (sets_append d at s t)
      ∙ sets-eq (s ++ t) d at h

  -- ---- piece by piece

  -- out has what is put down before index `to`: with `rest` stored from there on it has all
  pub record Putting (out₀ : List A) (at : ℕ) (all out : List A) (to : ℕ) (rest : List A) : Type 0 where
    pub size : length out ≡ length out₀
    pub room : to + length rest ≤ length out
    pub whole : sets out to rest ≡ put out₀ at all

  -- nothing is put down
  pub putting_start : {out₀ : List A} {at : ℕ} {all : List A} → at + length all ≤ length out₀ → Putting out₀ at all out₀ at all
  unfolding put
  putting_start {out₀} {at} {all} h = record { size = refl; room = h; whole = sets-eq all out₀ at h }

  module _ {out₀ : List A} {at : ℕ} {all out : List A} {to : ℕ} {rest : List A} (p : Putting out₀ at all out to rest) where
    -- there is room for the next piece
    pub putting_room : (piece later : List A) → rest ≡ piece ++ later → to + length piece ≤ length out
    putting_room piece later e = omega (arith, p.room, ap length e, length-append piece later)

    -- a piece more
    pub putting_more : {out' later : List A} {to' : ℕ} (piece : List A) → rest ≡ piece ++ later → out' ≡ put out to piece → to' ≡ to + length piece → Putting out₀ at all out' to' later
    unfolding put
    putting_more {out'} {later} {to'} piece e h l =
        let f : out' ≡ sets out to piece = h ∙ sym (sets-eq piece out to (putting_room piece later e)) in
        let k : length out' ≡ length out = ap length f ∙ length-sets out to piece in
        record {
          size = k ∙ p.size;
          room = omega (arith, p.room, ap length e, length-append piece later);
          whole = rw (f, l) (sym (sets_append out to piece later) ∙ ap (sets out to) (sym e) ∙ p.whole);
        }

    -- one element more
    pub putting_store : {a : A} {later : List A} {to' : ℕ} → rest ≡ a ∷ later → to' ≡ to + 1 → Putting out₀ at all (set out to a) to' later
    putting_store {a} {later} {to'} e l =
        record {
          size = length-set out to a ∙ p.size;
          room = rw (length-set out to a) (omega (arith, p.room, ap length e));
          whole = rw (l, add-one to) (ap (sets out to) (sym e) ∙ p.whole);
        }

    -- all is put down
    pub putting_end : rest ≡ [] → out ≡ put out₀ at all
    putting_end e = ap (sets out to) (sym e) ∙ p.whole
