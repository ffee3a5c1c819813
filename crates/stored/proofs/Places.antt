-- Where a level's numbers stand among those of a layout, what stands there, and that they are filled in from the front, level by level, zeros after the last. Assumes nothing.
use mathlib.Core.Path.{◌≡◌, refl, sym, ap, subst, ◌∙◌}
use mathlib.Core.List.{List, ◌++◌, append-nil}
use mathlib.Core.Logic.{⊎_elim}
use Prim.Native.Nat.{ℕ, zero, suc, ◌+◌, ◌*◌, ◌-◌, ◌/◌, ◌%◌, ◌≤◌, ◌<◌}
use native.Mathlib.Omega.{arith}
use lib.ListN.{length, get_or, set, take, drop, replicate, length-append, length-replicate, length-drop, get_or-replicate, drop_of_length-le, get_or-append}
use lib.Seq.{get_or-append-add, get_or-take, length-take-le}
use Rattle.settings.specs.Limits.{most_levels}
use Rattle.filters.proofs.Tests.{below_or}
use Rattle.filters.proofs.Tables.{tab_length, tab_at, is_tab, part_length}
use Rattle.filters.proofs.Filling.{Filled, filled_more}
use Rattle.layouts.specs.declared.layout.Layout.{Layout}
use Rattle.layouts.specs.declared.layout.Region.{Region}
use Rattle.layouts.specs.Layout.{levels_of, region_or, no_region}
use Rattle.layouts.proofs.Layouts.{region_none}
use Rattle.stored.specs.Layout.{region_number, number_at, most_numbers, stored_of, view_of}
use Rattle.stored.specs.Inner.{region_in}

-- ---- what stands at a level's places
pub place : (q : Layout) (i m : ℕ) → m < 3 → number_at q (4 + 3 * i + m) ≡ region_number (region_or q i) m
place q i m lt =
    let at : 4 + 3 * i + m ≡ suc (suc (suc (suc (3 * i + m)))) = omega arith in
    let level : (3 * i + m) / 3 ≡ i = omega arith in
    let which : (3 * i + m) % 3 ≡ m = omega arith in
    ap (number_at q) at ∙ ap (λ (j : ℕ). region_number (region_or q j) ((3 * i + m) % 3)) level ∙ ap (region_number (region_or q i)) which

-- the place of the first of them
pub place_first : (q : Layout) (i : ℕ) → number_at q (4 + 3 * i) ≡ (region_or q i).offset
place_first q i = let at : 4 + 3 * i ≡ 4 + 3 * i + 0 = omega arith in ap (number_at q) at ∙ place q i 0 (omega arith)

pub by_region : {o p w x h g : ℕ} → o ≡ p → w ≡ x → h ≡ g → ◌≡◌ {A = Region} (record { offset = o; width = w; height = h }) (record { offset = p; width = x; height = g })
by_region a b c = rw (a, b, c)

-- ---- what is made
pub stored_long : (q : Layout) → length (stored_of q) ≡ most_numbers
unfolding stored_of
stored_long q = tab_length (number_at q) most_numbers

pub stored_at : (q : Layout) (k : ℕ) → k < most_numbers → get_or (stored_of q) k 0 ≡ number_at q k
unfolding stored_of
stored_at q k lt = tab_at (number_at q) most_numbers k lt

pub stored_region : (q : Layout) (i : ℕ) → i < most_levels → region_in (stored_of q) i ≡ region_or q i
stored_region q i lt =
    by_region
    (stored_at q (4 + 3 * i) (omega arith) ∙ place_first q i)
    (stored_at q (4 + 3 * i + 1) (omega arith) ∙ place q i 1 (omega arith))
    (stored_at q (4 + 3 * i + 2) (omega arith) ∙ place q i 2 (omega arith))

-- the view of what is made is what it was made from
by_view : {q : Layout} {x y p : ℕ} → x ≡ q.x_shift → y ≡ q.y_shift → p ≡ q.pitch → ◌≡◌ {A = Layout} (record { opts = q.opts; x_shift = x; y_shift = y; pitch = p }) q
by_view a b c = rw (a, b, c) refl

pub view_stored : (q : Layout) → view_of q.opts (stored_of q) ≡ q
view_stored q = by_view (stored_at q 1 (omega arith)) (stored_at q 2 (omega arith)) (stored_at q 3 (omega arith))

-- ---- numbers that have each level's region, and the four before them, are those that are made
number_in : (l : List ℕ) (i m : ℕ) → m < 3 → get_or l (4 + 3 * i + m) 0 ≡ region_number (region_in l i) m
number_in l i zero lt = let at : 4 + 3 * i + 0 ≡ 4 + 3 * i = omega arith in ap (λ (k : ℕ). get_or l k 0) at
number_in l i (suc zero) lt = refl
number_in l i (suc (suc zero)) lt = refl
number_in l i (suc (suc (suc m))) lt = absurd (omega arith)

pub is_stored_lem : (q : Layout) (l : List ℕ) → length l ≡ most_numbers → get_or l 0 0 ≡ levels_of q → get_or l 1 0 ≡ q.x_shift → get_or l 2 0 ≡ q.y_shift → get_or l 3 0 ≡ q.pitch → ((i : ℕ) → i < most_levels → region_in l i ≡ region_or q i) → l ≡ stored_of q
unfolding stored_of
is_stored_lem q l long n x y p regions = is_tab l (number_at q) most_numbers long at
  where
    at : (k : ℕ) → k < most_numbers → get_or l k 0 ≡ number_at q k
    at zero lt = n
    at (suc zero) lt = x
    at (suc (suc zero)) lt = y
    at (suc (suc (suc zero))) lt = p
    at (suc (suc (suc (suc k)))) lt =
        let here : suc (suc (suc (suc k))) ≡ 4 + 3 * (k / 3) + k % 3 = omega arith in
        let few : k % 3 < 3 = omega arith in
        ap (λ (j : ℕ). get_or l j 0) here ∙ number_in l (k / 3) (k % 3) few ∙ ap (λ (t : Region). region_number t (k % 3)) (regions (k / 3) (omega arith))

-- ---- filling them in
abbrev pub put_region : List ℕ → ℕ → Region → List ℕ
put_region l i t = set (set (set l (4 + 3 * i) t.offset) (4 + 3 * i + 1) t.width) (4 + 3 * i + 2) t.height

pub filled_level : (q : Layout) {l : List ℕ} {i : ℕ} {t : Region} → Filled (number_at q) l most_numbers (4 + 3 * i) → i < most_levels → t ≡ region_or q i → Filled (number_at q) (put_region l i t) most_numbers (4 + 3 * (i + 1))
filled_level q {l} {i} {t} h lt e =
    let o = filled_more h (omega arith) (ap (λ (r : Region). r.offset) e ∙ sym (place_first q i)) in
    let w = filled_more o (omega arith) (ap (λ (r : Region). r.width) e ∙ sym (place q i 1 (omega arith))) in
    let third : 4 + 3 * i + 1 + 1 ≡ 4 + 3 * i + 2 = omega arith in
    let next : 4 + 3 * i + 2 + 1 ≡ 4 + 3 * (i + 1) = omega arith in
    subst (λ (k : ℕ). Filled (number_at q) (put_region l i t) most_numbers k) next
    (filled_more (subst (λ (k : ℕ). Filled (number_at q) (set (set l (4 + 3 * i) t.offset) (4 + 3 * i + 1) t.width) most_numbers k) third w) (omega arith) (ap (λ (r : Region). r.height) e ∙ sym (place q i 2 (omega arith))))

-- and zeros after the last
none_zero : (k : ℕ) → region_number no_region k ≡ 0
none_zero zero = refl
none_zero (suc zero) = refl
none_zero (suc (suc k)) = refl

past_zero : (q : Layout) (n j : ℕ) → levels_of q ≤ n → 4 + 3 * n ≤ j → number_at q j ≡ 0
past_zero q n zero past le = absurd (omega arith)
past_zero q n (suc zero) past le = absurd (omega arith)
past_zero q n (suc (suc zero)) past le = absurd (omega arith)
past_zero q n (suc (suc (suc zero))) past le = absurd (omega arith)
past_zero q n (suc (suc (suc (suc k)))) past le = ap (λ (t : Region). region_number t (k % 3)) (region_none q (k / 3) (omega arith)) ∙ none_zero (k % 3)

pub filled_rest : (q : Layout) {l z : List ℕ} {n : ℕ} → Filled (number_at q) l most_numbers (4 + 3 * n) → levels_of q ≤ n → z ≡ replicate (length (take (length l - (4 + 3 * n)) (drop (4 + 3 * n) l))) 0 → take (4 + 3 * n) l ++ (z ++ drop (length l - (4 + 3 * n)) (drop (4 + 3 * n) l)) ≡ stored_of q
unfolding stored_of
filled_rest q {l} {z} {n} h past e = whole ∙ is_tab (take k l ++ zeros) (number_at q) most_numbers (length-append (take k l) zeros ∙ omega (arith, front, length-replicate {A = ℕ} (most_numbers - k) 0, h.most)) at
  where
    k : ℕ
    k = 4 + 3 * n

    zeros : List ℕ
    zeros = replicate (most_numbers - k) 0

    front : length (take k l) ≡ k
    front = length-take-le k l (omega (arith, h.most, h.long))

    whole : take k l ++ (z ++ drop (length l - k) (drop k l)) ≡ take k l ++ zeros
    whole =
        ap (λ (m : List ℕ). take k l ++ m)
        (ap (λ (m : List ℕ). z ++ m) (drop_of_length-le (drop k l) {i = length l - k} (omega (arith, length-drop k l)))
        ∙ append-nil z
        ∙ e
        ∙ ap (λ (m : ℕ). replicate m 0) (part_length l k (length l) (omega (arith, h.most, h.long)) (omega arith) ∙ ap (λ (m : ℕ). m - k) h.long))

    after : (j : ℕ) → k ≤ j → j < most_numbers → get_or (take k l ++ zeros) j 0 ≡ number_at q j
    after j le lt =
        let there : j ≡ length (take k l) + (j - k) = omega (arith, front) in
        ap (λ (i : ℕ). get_or (take k l ++ zeros) i 0) there ∙ get_or-append-add (take k l) zeros (j - k) 0 ∙ get_or-replicate (most_numbers - k) (j - k) 0 0 (omega arith) ∙ sym (past_zero q n j past le)

    at : (j : ℕ) → j < most_numbers → get_or (take k l ++ zeros) j 0 ≡ number_at q j
    at j lt = ⊎_elim (λ (less : j < k). get_or-append (take k l) zeros 0 j (omega (arith, front)) ∙ get_or-take k l j 0 less ∙ h.done j less) (λ (le : k ≤ j). after j le lt) (below_or j k)
