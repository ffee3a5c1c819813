-- The number of a call, and what it leaves in the slice that is lent for its answer. "The lowest number that applies is given, and none other"; "no refusal changes a lent byte".
use Rattle.std.specs.Prelude.{Bool, cond, ◌&&◌, ◌||◌, List, ℕ, leb, ltb, length}
use Rattle.settings.specs.Answers.{Answer, if_done, written}

-- n, unless the slice is too short for the answer, document 02's 15, and no lower number applies
abbrev pub lowest : ℕ → Bool → ℕ
lowest n short = cond (leb 1 n && ltb n 15) n (cond short 15 n)

-- a call whose number but for that is n, and that tells values
abbrev pub tells : {A : Type 0} → ℕ → List A → List A → Answer (List A)
tells n values lent = if_done (lowest n (ltb (length lent) (length values))) (written values lent) lent

-- the two slices that a record which is read is told in, its numbers and the place after it: whether one is too short
abbrev pub no_room : ℕ → ℕ → Bool
no_room fields after = ltb fields 10 || ltb after 1
