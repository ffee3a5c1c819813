-- Rows made by a rule: their length, what stands at a place, and when a list is one; parts that were lent and came back. Assumes nothing.
use mathlib.Core.Path.{◌≡◌, refl, sym, ap, ◌∙◌}
use mathlib.Core.List.{List, [], ◌∷◌, ◌++◌}
use mathlib.Core.Logic.{⊎_elim}
use Prim.Native.Nat.{ℕ, zero, suc, ◌+◌, ◌-◌, ◌≤◌, ◌<◌}
use native.Mathlib.Nat.{le_of_suc-le-suc, eq-or-lt_of_le}
use native.Mathlib.Omega.{arith}
use lib.ListN.{length, get_or, take, drop, length-append, length-drop, get_or-append}
use lib.Seq.{ext_get_or, get_or-append_seam, get_or-append-add, get_or-take, get_or-drop, length-take-le, take_all}
use Rattle.filters.specs.Row.{tab, mean_of, means_of}
use Rattle.filters.specs.Inner.{laid}
use Rattle.filters.proofs.Tests.{below_or}

pub tab_length : (f : ℕ → ℕ) (n : ℕ) → length (tab f n) ≡ n
unfolding tab
tab_length f zero = refl
tab_length f (suc n) = length-append (tab f n) (f n ∷ []) ∙ omega (arith, tab_length f n)

pub tab_at : (f : ℕ → ℕ) (n i : ℕ) → i < n → get_or (tab f n) i 0 ≡ f i
unfolding tab
tab_at f (suc n) i h =
    ⊎_elim
    (λ (eq : i ≡ n). ap (λ (k : ℕ). get_or (tab f n ++ (f n ∷ [])) k 0) (eq ∙ sym (tab_length f n)) ∙ get_or-append_seam (tab f n) (f n) [] 0 ∙ ap f (sym eq))
    (λ (lt : i < n). get_or-append (tab f n) (f n ∷ []) 0 i (omega (arith, tab_length f n)) ∙ tab_at f n i lt)
    (eq-or-lt_of_le (le_of_suc-le-suc h))
tab_at f zero i h = absurd (omega arith)

-- a list that has the rule's value at each place
pub is_tab : (l : List ℕ) (f : ℕ → ℕ) (n : ℕ) → length l ≡ n → ((i : ℕ) → i < n → get_or l i 0 ≡ f i) → l ≡ tab f n
is_tab l f n e at = ext_get_or 0 l (tab f n) (e ∙ sym (tab_length f n)) (λ i h. let lt : i < n = omega arith in at i lt ∙ sym (tab_at f n i lt))

-- two rules that agree below n
pub tab_ext : (f g : ℕ → ℕ) (n : ℕ) → ((i : ℕ) → i < n → f i ≡ g i) → tab f n ≡ tab g n
tab_ext f g n e = is_tab (tab f n) g n (tab_length f n) (λ i h. tab_at f n i h ∙ e i h)

pub take_tab : (n : ℕ) (l : List ℕ) → n ≤ length l → take n l ≡ tab (λ i. get_or l i 0) n
take_tab n l le = is_tab (take n l) (λ i. get_or l i 0) n (length-take-le n l le) (λ i h. get_or-take n l i 0 h)

-- rows from a place on
pub take_from : (w at : ℕ) (l : List ℕ) → at + w ≤ length l → take w (drop at l) ≡ tab (λ j. get_or l (at + j) 0) w
take_from w at l fits = take_tab w (drop at l) (omega (arith, length-drop at l)) ∙ tab_ext (λ j. get_or (drop at l) j 0) (λ j. get_or l (at + j) 0) w (λ j lt. get_or-drop at l j 0)

pub means_from : (w at : ℕ) (a b : List ℕ) → means_of w (drop at a) (drop at b) ≡ tab (λ j. mean_of (get_or a (at + j) 0) (get_or b (at + j) 0)) w
unfolding means_of
means_from w at a b = tab_ext (λ j. mean_of (get_or (drop at a) j 0) (get_or (drop at b) j 0)) (λ j. mean_of (get_or a (at + j) 0) (get_or b (at + j) 0)) w (λ j lt. rw (get_or-drop at a j 0, get_or-drop at b j 0) refl)

pub part_length : (l : List ℕ) (a e : ℕ) → a ≤ e → e ≤ length l → length (take (e - a) (drop a l)) ≡ e - a
part_length l a e ordered fits = length-take-le (e - a) (drop a l) (omega (arith, length-drop a l))

-- ---- a part that was lent and came back
-- a block laid whole into the part that was lent for it
pub laid_whole : (o l k : List ℕ) (at w : ℕ) → at + w ≤ length o → length l ≡ w → k ≡ take (length (take (at + w - at) (drop at o))) l → laid o at (at + w - at) k ≡ laid o at w l
laid_whole o l k at w fits long made =
    let width : at + w - at ≡ w = omega arith in
    let whole : k ≡ l = made ∙ take_all (length (take (at + w - at) (drop at o))) l (omega (arith, part_length o at (at + w) (omega arith) fits)) in
    rw (whole, width) refl

module _ (o k : List ℕ) (a e : ℕ) (ordered : a ≤ e) (fits : e ≤ length o) (whole : length k ≡ e - a) where
  abbrev back : List ℕ
  back = laid o a (e - a) k

  front : length (take a o) ≡ a
  front = length-take-le a o (omega arith)

  pub back_length : length back ≡ length o
  back_length = simp (length-append, length-drop) (omega (arith, front))

  back_before : (i : ℕ) → i < a → get_or back i 0 ≡ get_or o i 0
  back_before i lt = get_or-append (take a o) (k ++ drop (e - a) (drop a o)) 0 i (omega (arith, front)) ∙ get_or-take a o i 0 lt

  past_front : (j : ℕ) → get_or back (a + j) 0 ≡ get_or (k ++ drop (e - a) (drop a o)) j 0
  past_front j = ap (λ (m : ℕ). get_or back (m + j) 0) (sym front) ∙ get_or-append-add (take a o) (k ++ drop (e - a) (drop a o)) j 0

  back_in : (j : ℕ) → j < e - a → get_or back (a + j) 0 ≡ get_or k j 0
  back_in j lt = past_front j ∙ get_or-append k (drop (e - a) (drop a o)) 0 j (omega arith)

  back_past : (i : ℕ) → e ≤ i → get_or back i 0 ≡ get_or o i 0
  back_past i le =
      let d = i - e in
      let split : i ≡ a + (e - a + d) = omega arith in
      ap (λ (m : ℕ). get_or back m 0) split
      ∙ past_front (e - a + d)
      ∙ ap (λ (m : ℕ). get_or (k ++ drop (e - a) (drop a o)) (m + d) 0) (sym whole)
      ∙ get_or-append-add k (drop (e - a) (drop a o)) d 0
      ∙ get_or-drop (e - a) (drop a o) d 0
      ∙ get_or-drop a o (e - a + d) 0
      ∙ ap (λ (m : ℕ). get_or o m 0) (sym split)

  -- by the rule h: before the part and in it
  pub back_front : (h : ℕ → ℕ) → ((i : ℕ) → i < a → get_or o i 0 ≡ h i) → ((j : ℕ) → j < e - a → get_or k j 0 ≡ h (a + j)) → (i : ℕ) → i < e → get_or back i 0 ≡ h i
  back_front h before within i lt =
      ⊎_elim
      (λ (b : i < a). back_before i b ∙ before i b)
      (λ (nb : a ≤ i).
      let split : i ≡ a + (i - a) = omega arith in
      ap (λ (m : ℕ). get_or back m 0) split ∙ back_in (i - a) (omega arith) ∙ within (i - a) (omega arith) ∙ ap h (sym split))
      (below_or i a)

  -- and past it
  pub back_tab : (h : ℕ → ℕ) (n : ℕ) → length o ≡ n → ((i : ℕ) → i < a → get_or o i 0 ≡ h i) → ((j : ℕ) → j < e - a → get_or k j 0 ≡ h (a + j)) → ((i : ℕ) → e ≤ i → i < n → get_or o i 0 ≡ h i) → back ≡ tab h n
  back_tab h n long before within past =
      is_tab back h n (back_length ∙ long)
      (λ i lt.
      ⊎_elim
      (λ (w : i < e). back_front h before within i w)
      (λ (p : e ≤ i). back_past i p ∙ past i p lt)
      (below_or i e))
