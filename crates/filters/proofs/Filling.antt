-- A loop that writes out[i] = f i from the front: what it knows at its head, one store more, its end, and parts made by one call. Assumes nothing.
use mathlib.Core.Path.{◌≡◌, sym, ap, subst, ◌∙◌}
use mathlib.Core.List.{List}
use mathlib.Core.Logic.{⊎_elim}
use Prim.Native.Nat.{ℕ, ◌+◌, ◌-◌, ◌≤◌, ◌<◌}
use native.Mathlib.Nat.{le_of_suc-le-suc, eq-or-lt_of_le}
use native.Mathlib.Numerals.{add-one}
use native.Mathlib.Omega.{arith}
use lib.ListN.{length, take, drop, get_or, set, length-set}
use lib.Seq.{get_or-set_same, get_or-set_other}
use Rattle.filters.specs.Row.{tab, mean_of, means_of}
use Rattle.filters.specs.Inner.{laid}
use Rattle.filters.proofs.Tables.{tab_length, tab_at, is_tab, means_from, take_from, back_length, back_front}

pub record Filled (f : ℕ → ℕ) (out : List ℕ) (n i : ℕ) : Type 0 where
  pub most : i ≤ n
  pub long : length out ≡ n
  pub done : (j : ℕ) → j < i → get_or out j 0 ≡ f j

pub filled_none : {f : ℕ → ℕ} {out : List ℕ} {n : ℕ} → length out ≡ n → Filled f out n 0
filled_none e = record { most = omega arith; long = e; done = λ j h. absurd (omega arith) }

pub filled_more : {f : ℕ → ℕ} {out : List ℕ} {n i v : ℕ} → Filled f out n i → i < n → v ≡ f i → Filled f (set out i v) n (i + 1)
filled_more {f} {out} {n} {i} {v} h lt e =
    record {
      most = omega arith;
      long = length-set out i v ∙ h.long;
      done = λ j l.
          ⊎_elim
          (λ (eq : j ≡ i). ap (λ (k : ℕ). get_or (set out i v) k 0) eq ∙ get_or-set_same out i v 0 (omega (arith, h.long)) ∙ e ∙ ap f (sym eq))
          (λ (less : j < i). get_or-set_other out i j v 0 (λ eq. omega arith) ∙ h.done j less)
          (eq-or-lt_of_le (le_of_suc-le-suc (rw add-one at l)));
    }

pub filled_fewer : {f : ℕ → ℕ} {out : List ℕ} {n i j : ℕ} → Filled f out n i → j ≤ i → Filled f out n j
filled_fewer h le = record { most = omega (arith, h.most); long = h.long; done = λ k lt. h.done k (omega arith) }

pub filled_whole : {f : ℕ → ℕ} {out : List ℕ} {n i : ℕ} → Filled f out n i → n ≤ i → out ≡ tab f n
filled_whole {f} {out} {n} {i} h le = is_tab out f n h.long (λ j lt. h.done j (omega arith))

-- w bytes laid from the first place not yet made on, by the rule
pub filled_part : {f : ℕ → ℕ} {out o : List ℕ} {n i : ℕ} → Filled f out n i → (w : ℕ) → i + w ≤ n → o ≡ laid out i w (tab (λ j. f (i + j)) w) → Filled f o n (i + w)
filled_part {f} {out} {o} {n} {i} h w fits made =
    let k = tab (λ j. f (i + j)) w in
    let e = i + w in
    let width : e - i ≡ w = omega arith in
    let whole : length k ≡ e - i = tab_length (λ j. f (i + j)) w ∙ sym width in
    let inside : e ≤ length out = omega (arith, h.long) in
    rw made
    (subst (λ (m : ℕ). Filled f (laid out i m k) n e) width
    (record {
      most = fits;
      long = back_length out k i e (omega arith) inside whole ∙ h.long;
      done = back_front out k i e (omega arith) inside whole f h.done (λ j lt. tab_at (λ j. f (i + j)) w j (omega arith));
    }))

-- means, and a copy, of a part
pub means_part : (a b : List ℕ) {out o : List ℕ} {n i : ℕ} → Filled (λ j. mean_of (get_or a j 0) (get_or b j 0)) out n i → (w : ℕ) → i + w ≤ n → o ≡ laid out i w (means_of w (drop i a) (drop i b)) → Filled (λ j. mean_of (get_or a j 0) (get_or b j 0)) o n (i + w)
means_part a b {out} {o} {n} {i} h w fits made = filled_part h w fits (made ∙ ap (laid out i w) (means_from w i a b))

pub copied_part : (row : List ℕ) {out o : List ℕ} {n i : ℕ} → Filled (λ j. get_or row j 0) out n i → (w : ℕ) → i + w ≤ n → n ≤ length row → o ≡ laid out i w (take w (drop i row)) → Filled (λ j. get_or row j 0) o n (i + w)
copied_part row {out} {o} {n} {i} h w fits long made = filled_part h w fits (made ∙ ap (laid out i w) (take_from w i row (omega arith)))
