-- Stores that don't see one another can be made in either order, and a loop that does two things a turn is two loops, as is one of more turns. Assumes nothing.
use mathlib.Core.Path.{◌≡◌, refl, sym, ap, ◌∙◌}
use mathlib.Core.List.{List, ◌++◌}
use Prim.Native.Nat.{ℕ, zero, suc, ◌+◌, ◌≤◌, ◌<◌}
use native.Mathlib.Omega.{arith}
use lib.ListN.{length, take, drop, take-append-drop}
use lib.Seq.{length-take-le}
use Rattle.layouts.specs.Storing.{put, steps}
use Rattle.builder.specs.Canvas.{fetch}
use Rattle.builder.proofs.Runs.{fetch_length, fetch_at, is_fetch, put_past, put_length, put_left, put_right}
use Rattle.builder.proofs.Stages.{turns}

-- ---- two runs stored, the first before the second
put_swap : (c x y : List ℕ) (a b : ℕ) → a + length x ≤ b → b ≤ length c → put (put c a x) b y ≡ put (put c b y) a x
put_swap c x y a b apart fits =
    let F = take b c in
    let S = drop b c in
    let long : length F ≡ b = length-take-le b c fits in
    let whole : F ++ S ≡ c = take-append-drop b c in
    let room : a + length x ≤ length F = omega arith in
    let same : length (put F a x) ≡ b = put_length F a x room ∙ long in
    let at_b : length (put F a x) + 0 ≡ b = omega arith in
    let at-F : length F + 0 ≡ b = omega arith in
    ap (λ (l : List ℕ). put (put l a x) b y) (sym whole)
    ∙ ap (λ (l : List ℕ). put l b y) (sym (put_left F S x a room))
    ∙ ap (λ (k : ℕ). put (put F a x ++ S) k y) (sym at_b)
    ∙ sym (put_right (put F a x) S y 0 (omega arith))
    ∙ put_left F (put S 0 y) x a room
    ∙ ap (λ (l : List ℕ). put l a x) (put_right F S y 0 (omega arith))
    ∙ ap (λ (k : ℕ). put (put (F ++ S) k y) a x) at-F
    ∙ ap (λ (l : List ℕ). put (put l b y) a x) whole

-- what is read past a store
pub fetch_after : (c ys : List ℕ) (at s n : ℕ) → at + length ys ≤ s → fetch (put c at ys) s n ≡ fetch c s n
fetch_after c ys at s n past =
    is_fetch (fetch (put c at ys) s n) c s n (fetch_length (put c at ys) s n)
    (λ i h. fetch_at (put c at ys) s n i h ∙ put_past c ys at (s + i) (omega arith))

-- two stages that store, neither of which reads what the other stores
pub stores_swap : (a b : ℕ) (r s : List ℕ → List ℕ) (c : List ℕ) → a + length (r c) ≤ b → b ≤ length c → s (put c a (r c)) ≡ s c → r (put c b (s c)) ≡ r c → put (put c a (r c)) b (s (put c a (r c))) ≡ put (put c b (s c)) a (r (put c b (s c)))
stores_swap a b r s c apart fits es er =
    ap (put (put c a (r c)) b) es ∙ put_swap c (r c) (s c) a b apart fits ∙ ap (put (put c b (s c)) a) (sym er)

-- ---- loops
-- one loop is two, of the first turns and of the others
pub steps_more : (step : ℕ → List ℕ → List ℕ) (m n : ℕ) (c : List ℕ) → steps step (m + n) c ≡ steps (λ k. step (m + k)) n (steps step m c)
unfolding steps
steps_more step m zero c = let none : m + 0 ≡ m = omega arith in ap (λ (k : ℕ). steps step k c) none
steps_more step m (suc n) c = let next : m + suc n ≡ suc (m + n) = omega arith in ap (λ (k : ℕ). steps step k c) next ∙ ap (step (m + n)) (steps_more step m n c)

-- every step keeps Q
pub steps_keep : (Q : List ℕ → Type 0) (step : ℕ → List ℕ → List ℕ) (n : ℕ) (c : List ℕ) → ((y : ℕ) (d : List ℕ) → y < n → Q d → Q (step y d)) → Q c → Q (steps step n c)
steps_keep Q step n c keep q = (turns {R = λ d e. Q d} step step n (λ y lt. record { each = λ d e. keep y d lt })).each c c q

-- on lists of which Q holds
module _ (Q : List ℕ → Type 0) where
  pub steps_alike : (f g : ℕ → List ℕ → List ℕ) (n : ℕ) → ((y : ℕ) (c : List ℕ) → y < n → Q c → Q (g y c)) → ((y : ℕ) (c : List ℕ) → y < n → Q c → f y c ≡ g y c) → (c : List ℕ) → Q c → steps f n c ≡ steps g n c
  unfolding steps
  steps_alike f g zero keep same c q = refl
  steps_alike f g (suc n) keep same c q =
      ap (f n) (steps_alike f g n (λ y d l. keep y d (omega arith)) (λ y d l. same y d (omega arith)) c q)
      ∙ same n (steps g n c) (omega arith) (steps_keep Q g n c (λ y d l. keep y d (omega arith)) q)

  -- a step that commutes with each turn commutes with the loop
  pub steps_past : (step : List ℕ → List ℕ) (g : ℕ → List ℕ → List ℕ) (n : ℕ) → ((y : ℕ) (c : List ℕ) → y < n → Q c → Q (g y c)) → ((y : ℕ) (c : List ℕ) → y < n → Q c → step (g y c) ≡ g y (step c)) → (c : List ℕ) → Q c → step (steps g n c) ≡ steps g n (step c)
  unfolding steps
  steps_past step g zero keep swap c q = refl
  steps_past step g (suc n) keep swap c q =
      swap n (steps g n c) (omega arith) (steps_keep Q g n c (λ y d l. keep y d (omega arith)) q)
      ∙ ap (g n) (steps_past step g n (λ y d l. keep y d (omega arith)) (λ y d l. swap y d (omega arith)) c q)

  -- one loop is two, where a later turn's first part commutes with an earlier turn's second
  pub steps_two : (f g : ℕ → List ℕ → List ℕ) (n : ℕ) → ((y : ℕ) (c : List ℕ) → y < n → Q c → Q (f y c)) → ((y : ℕ) (c : List ℕ) → y < n → Q c → Q (g y c)) → ((i j : ℕ) (c : List ℕ) → i < j → j < n → Q c → f j (g i c) ≡ g i (f j c)) → (c : List ℕ) → Q c → steps (λ y d. g y (f y d)) n c ≡ steps g n (steps f n c)
  unfolding steps
  steps_two f g zero kf kg swap c q = refl
  steps_two f g (suc n) kf kg swap c q =
      ap (λ (d : List ℕ). g n (f n d)) (steps_two f g n (λ y d l. kf y d (omega arith)) (λ y d l. kg y d (omega arith)) (λ i j d a b. swap i j d a (omega arith)) c q)
      ∙ ap (g n) (steps_past (f n) g n (λ y d l. kg y d (omega arith)) (λ y d l. swap y n d l (omega arith)) (steps f n c) (steps_keep Q f n c (λ y d l. kf y d (omega arith)) q))
