-- One outcome: no second answer, row, frame, spill or scratch meets the contract of a public call (`OneOutcome`), by one law (`determined`). The calls of `settings` and `longhands`, and `view` of `stored`, proved there, are named among the imports; then come the rows of `filters`, the inner calls of `settings`, `layouts`, `stored`, `lookups` and `builder`, and last the public calls of `stored`, `lookups` and `planes`, `build_plane` by the inner call that it makes. docs/EXCEPTIONS.md has those that aren't here. Assumes nothing.
use Rattle.std.specs.Prelude.{Result, ⊤}
use mathlib.Core.Path.{◌≡◌, refl}
use mathlib.Core.Bool.{true}
use mathlib.Core.List.{List}
use Prim.Native.Nat.{ℕ}
use contract.Lifetimes.{Lfts}
use Rattle.settings.specs.declared.refusal.Refusal.{Refusal}
use Rattle.layouts.specs.declared.descent.Descent.{Descent}
use Rattle.layouts.specs.declared.layout.Layout.{Layout}
use Rattle.layouts.specs.declared.layout.Region.{Region}
use Rattle.layouts.specs.declared.level.Level.{Level}
use Rattle.layouts.specs.Fitting.{plainly as fitting_told}
use Rattle.stored.specs.Passed.{plainly as stored_told}
use Rattle.settings.proofs.Outcome.{OneOutcome, determined, itself}
use Rattle.settings.proofs.Known.{tested_known, outcome_known}
use Rattle.filters.proofs.rows.mean.Reads as mean_reads
use Rattle.filters.proofs.rows.mean_row.Reads as mean_row_reads
use Rattle.filters.proofs.rows.copy_row.Reads as copy_row_reads
use Rattle.filters.proofs.rows.zero_row.Reads as zero_row_reads
use Rattle.filters.proofs.rows.rest.Reads as rest_reads
use Rattle.filters.proofs.halving.ReduceFilter.from_option.Reads as reduce_from_option_reads
use Rattle.filters.proofs.halving.ReduceFilter.first_row.Reads as first_row_reads
use Rattle.filters.proofs.halving.ReduceFilter.last_row.Reads as last_row_reads
use Rattle.filters.proofs.halving.ReduceFilter.vertical_edge.Reads as vertical_edge_reads
use Rattle.filters.proofs.halving.ReduceFilter.vertical_filter.Reads as vertical_filter_reads
use Rattle.filters.proofs.halving.ReduceFilter.reduce_row.Reads as reduce_row_reads
use Rattle.filters.proofs.halving.cubic_rest.Reads as cubic_rest_reads
use Rattle.filters.proofs.half_pel.HalfPel.from_option.Reads as half_pel_from_option_reads
use Rattle.filters.proofs.half_pel.HalfPel.vertical.Reads as half_vertical_reads
use Rattle.filters.proofs.half_pel.HalfPel.horizontal.Reads as half_horizontal_reads
use Rattle.layouts.specs.Answers.{no_needs, no_run}
use Rattle.layouts.proofs.Known.{left_known}
use Rattle.stored.specs.Layout.{no_stored}
use Rattle.lookups.specs.Answers.{no_level_plane}
use Rattle.stored.proofs.layout.fill.Reads as fill_reads
use Rattle.stored.proofs.layout.level_regions.Reads as level_regions_reads
use Rattle.lookups.proofs.ends.written_end.Reads as written_end_reads
use Rattle.lookups.proofs.ends.needs.Reads as needs_reads
use Rattle.lookups.proofs.rows.row_tested.Reads as row_tested_reads
use Rattle.lookups.proofs.rows.row_place.Reads as row_place_reads
use Rattle.lookups.proofs.rows.row.Reads as row_reads
use Rattle.lookups.proofs.margins.clear_margins.Reads as clear_margins_reads
use Rattle.settings.proofs.super_opts.levels_of.Reads as levels_of_reads
use Rattle.settings.proofs.super_opts.reduce_once.Reads as reduce_once_reads
use Rattle.settings.proofs.super_opts.SuperOpts.accepted_but_levels.Reads as accepted_but_levels_reads
use Rattle.settings.proofs.record.Accepted.super_height.Reads as accepted_height_reads
use Rattle.settings.proofs.record.Accepted.super_width.Reads as accepted_width_reads
use Rattle.layouts.proofs.levels.width.Reads as width_reads
use Rattle.layouts.proofs.levels.height.Reads as height_reads
use Rattle.layouts.proofs.fitting.Fitting.offset.Reads as offset_reads
use Rattle.layouts.proofs.fitting.Fitting.spill_need.Reads as spill_need_reads
use Rattle.layouts.proofs.fitting.Fitting.source_need.Reads as source_need_reads
use Rattle.layouts.proofs.fitting.Fitting.scratch_need.Reads as scratch_need_reads
use Rattle.lookups.proofs.lent.build_tested.Reads as build_tested_reads
use Rattle.layouts.proofs.levels.least_pitch.Reads as least_pitch_reads
use Rattle.layouts.proofs.levels.bad_pitch.Reads as bad_pitch_reads
use Rattle.layouts.proofs.fitting.Fitting.row_in.Reads as row_in_reads
use Rattle.layouts.proofs.rows.hand_out.Reads as hand_out_reads
use Rattle.layouts.proofs.levels.stored.Reads as stored_reads
use Rattle.layouts.proofs.level.Level.row.Reads as level_row_reads
use Rattle.layouts.proofs.level.Later.fuses.Reads as fuses_reads
use Rattle.layouts.proofs.level.Later.clear.Reads as clear_level_reads
use Rattle.layouts.proofs.fitting.Fitting.lent_tested.Reads as lent_tested_reads
use Rattle.layouts.proofs.levels.tested.Reads as layout_tested_reads
use Rattle.layouts.proofs.descent.Descent.top.Reads as descent_top_reads
use Rattle.layouts.proofs.descent.Descent.next.Reads as descent_next_reads
use Rattle.layouts.proofs.descent.Descent.down.Reads as descent_down_reads
use Rattle.layouts.proofs.descent.Descent.here.Reads as descent_here_reads
use Rattle.layouts.proofs.level.Level.end.Reads as level_end_reads
use Rattle.layouts.proofs.fitting.Fitting.of.Reads as fitting_of_reads
use Rattle.stored.proofs.passed.Stored.of.Reads as stored_of_reads
use Rattle.stored.proofs.passed.Stored.layout.Reads as stored_layout_reads
use Rattle.stored.proofs.passed.Stored.levels.Reads as stored_levels_reads
use Rattle.stored.proofs.passed.Stored.level.Reads as stored_level_reads
use Rattle.stored.proofs.passed.Stored.end.Reads as stored_end_reads
use Rattle.layouts.proofs.descent.Descent.region.Reads as descent_region_reads
use Rattle.stored.proofs.layout.region_in.Reads as region_in_reads
use Rattle.stored.proofs.layout.tested.Reads as stored_tested_reads
use Rattle.stored.proofs.layout.change.Reads as change_reads
use Rattle.lookups.proofs.rows.level_plane.Reads as level_plane_reads
use Rattle.builder.proofs.canvas.put.Reads as put_reads
use Rattle.builder.proofs.canvas.span.Reads as span_reads
use Rattle.planes.proofs.Whole.{one_left}
use Rattle.planes.proofs.build.build_spilled.Reads as build_spilled_reads
use Rattle.planes.proofs.build.build_plane.Reads as build_plane_reads
use Rattle.planes.proofs.build.build_plane_by.Reads as build_plane_by_reads
pub use Rattle.settings.proofs.Unique.{from_opt_unique, accepted_unique, as_accepted_unique, pack_data_unique, super_height_unique, super_width_unique, read_word_unique, prepare_alike_unique, reduce_dim_unique, naturals_unique, number_unique, refuse_if_unique, natural_unique, bit_unique, to_bits_unique, from_bits_unique}
pub use Rattle.longhands.proofs.Unique.{read_longhand_unique, write_longhand_unique}
pub use Rattle.stored.proofs.Unique.{view_unique}

-- ---- the rows of `filters`
pub mean_unique : (κs : Lfts 0) → OneOutcome (mean_reads.Post κs) (λ r e. r)
mean_unique κs x r s e f p q = determined itself p q

pub mean_row_unique : (κs : Lfts 3) → OneOutcome (mean_row_reads.Post κs) (λ r e. e.0.now)
mean_row_unique κs x r s e f p q = determined itself p q

pub copy_row_unique : (κs : Lfts 2) → OneOutcome (copy_row_reads.Post κs) (λ r e. e.0.now)
copy_row_unique κs x r s e f p q = determined itself p q

pub zero_row_unique : (κs : Lfts 1) → OneOutcome (zero_row_reads.Post κs) (λ r e. e.0.now)
zero_row_unique κs x r s e f p q = determined itself p q

pub rest_unique : (κs : Lfts 1) → OneOutcome (rest_reads.Post κs) (λ r e. r.now)
rest_unique κs x r s e f p q = determined itself p q

pub reduce_from_option_unique : (κs : Lfts 0) → OneOutcome (reduce_from_option_reads.Post κs) (λ r e. r)
reduce_from_option_unique κs x r s e f p q = determined itself p q

pub first_row_unique : (κs : Lfts 0) → OneOutcome (first_row_reads.Post κs) (λ r e. r)
first_row_unique κs x r s e f p q = determined itself p q

pub last_row_unique : (κs : Lfts 0) → OneOutcome (last_row_reads.Post κs) (λ r e. r)
last_row_unique κs x r s e f p q = determined itself p q

pub vertical_edge_unique : (κs : Lfts 0) → OneOutcome (vertical_edge_reads.Post κs) (λ r e. r)
vertical_edge_unique κs x r s e f p q = determined itself p q

pub vertical_filter_unique : (κs : Lfts 7) → OneOutcome (vertical_filter_reads.Post κs) (λ r e. e.1.0.now)
vertical_filter_unique κs x r s e f p q = determined itself p q

pub reduce_row_unique : (κs : Lfts 2) → OneOutcome (reduce_row_reads.Post κs) (λ r e. e.1.0.now)
reduce_row_unique κs x r s e f p q = determined itself p q

pub cubic_rest_unique : (κs : Lfts 7) → OneOutcome (cubic_rest_reads.Post κs) (λ r e. e.0.now)
cubic_rest_unique κs x r s e f p q = determined itself p q

pub half_pel_from_option_unique : (κs : Lfts 0) → OneOutcome (half_pel_from_option_reads.Post κs) (λ r e. r)
half_pel_from_option_unique κs x r s e f p q = determined itself p q

pub half_vertical_unique : (κs : Lfts 7) → OneOutcome (half_vertical_reads.Post κs) (λ r e. e.1.0.now)
half_vertical_unique κs x r s e f p q = determined itself p q

pub half_horizontal_unique : (κs : Lfts 2) → OneOutcome (half_horizontal_reads.Post κs) (λ r e. e.1.0.now)
half_horizontal_unique κs x r s e f p q = determined itself p q

-- ---- inner calls
pub levels_of_unique : (κs : Lfts 0) → OneOutcome (levels_of_reads.Post κs) (λ r e. r)
levels_of_unique κs x r s e f p q = determined itself p q

pub reduce_once_unique : (κs : Lfts 0) → OneOutcome (reduce_once_reads.Post κs) (λ r e. r)
reduce_once_unique κs x r s e f p q = determined itself p q

pub accepted_but_levels_unique : (κs : Lfts 0) → OneOutcome (accepted_but_levels_reads.Post κs) (λ r e. r)
accepted_but_levels_unique κs x r s e f p q = determined itself p q

pub accepted_height_unique : (κs : Lfts 0) → OneOutcome (accepted_height_reads.Post κs) (λ r e. r)
accepted_height_unique κs x r s e f p q = determined itself p q

pub accepted_width_unique : (κs : Lfts 0) → OneOutcome (accepted_width_reads.Post κs) (λ r e. r)
accepted_width_unique κs x r s e f p q = determined itself p q

pub width_unique : (κs : Lfts 0) → OneOutcome (width_reads.Post κs) (λ r e. r)
width_unique κs x r s e f p q = determined itself p q

pub height_unique : (κs : Lfts 0) → OneOutcome (height_reads.Post κs) (λ r e. r)
height_unique κs x r s e f p q = determined itself p q

pub offset_unique : (κs : Lfts 0) → OneOutcome (offset_reads.Post κs) (λ r e. r)
offset_unique κs x r s e f p q = determined itself p q

pub spill_need_unique : (κs : Lfts 0) → OneOutcome (spill_need_reads.Post κs) (λ r e. r)
spill_need_unique κs x r s e f p q = determined itself p q

pub build_tested_unique : (κs : Lfts 1) → OneOutcome (build_tested_reads.Post κs) (λ r e. r)
build_tested_unique κs x r s e f p q = determined tested_known p q

pub source_need_unique : (κs : Lfts 0) → OneOutcome (source_need_reads.Post κs) (λ r e. r)
source_need_unique κs x r s e f p q = determined itself p q

pub scratch_need_unique : (κs : Lfts 0) → OneOutcome (scratch_need_reads.Post κs) (λ r e. r)
scratch_need_unique κs x r s e f p q = determined itself p q

pub least_pitch_unique : (κs : Lfts 0) → OneOutcome (least_pitch_reads.Post κs) (λ r e. r)
least_pitch_unique κs x r s e f p q = determined itself p q

pub bad_pitch_unique : (κs : Lfts 0) → OneOutcome (bad_pitch_reads.Post κs) (λ r e. r)
bad_pitch_unique κs x r s e f p q = determined itself p q

pub row_in_unique : (κs : Lfts 0) → OneOutcome (row_in_reads.Post κs) (λ r e. r)
row_in_unique κs x r s e f p q = determined (outcome_known no_run) p q

pub hand_out_unique : (κs : Lfts 1) → OneOutcome {O = (ℕ × ℕ) × List ℕ} (hand_out_reads.Post κs) (λ r e. (r.ref_ptr, r.now))
hand_out_unique κs x r s e f p q = rw (determined itself p.0 q.0, determined itself p.1 q.1)

pub stored_unique : (κs : Lfts 0) → OneOutcome (stored_reads.Post κs) (λ r e. r)
stored_unique κs x r s e f p q = determined itself p q

pub level_row_unique : (κs : Lfts 0) → OneOutcome (level_row_reads.Post κs) (λ r e. r)
level_row_unique κs x r s e f p q = determined (outcome_known no_run) p q

pub fuses_unique : (κs : Lfts 0) → OneOutcome (fuses_reads.Post κs) (λ r e. r)
fuses_unique κs x r s e f p q = determined itself p q

pub clear_level_unique : (κs : Lfts 1) → OneOutcome (clear_level_reads.Post κs) (λ r e. e.1.0.now)
clear_level_unique κs x r s e f p q = determined itself p q

pub lent_tested_unique : (κs : Lfts 0) → OneOutcome (lent_tested_reads.Post κs) (λ r e. r)
lent_tested_unique κs x r s e f p q = determined tested_known p q

pub layout_tested_unique : (κs : Lfts 0) → OneOutcome (layout_tested_reads.Post κs) (λ r e. r)
layout_tested_unique κs x r s e f p q = determined tested_known p q

-- all that a level tells
abbrev told : Level → Layout × ℕ × Region
told t = (t.fitting.layout, t.level, t.region)

level_alike : (t u : Level) → t.fitting.layout ≡ u.fitting.layout → t.level ≡ u.level → told t ≡ told u
level_alike t u a b = rw (t.lies, u.lies, a, b) refl

-- all that a walk carries
abbrev reached : Descent → Layout × ℕ × ℕ × ℕ × ℕ
reached d = (d.layout, d.level, d.offset, d.width, d.height)

alike : (d e : Descent) → d.layout ≡ e.layout → d.level ≡ e.level → reached d ≡ reached e
alike d e a b = rw (d.place, d.sides.0, d.sides.1, e.place, e.sides.0, e.sides.1, a, b) refl

pub descent_top_unique : (κs : Lfts 0) → OneOutcome (descent_top_reads.Post κs) (λ r e. reached r)
descent_top_unique κs x r s e f p q = alike r s (determined itself p.0 q.0) (determined itself p.1 q.1)

pub descent_next_unique : (κs : Lfts 0) → OneOutcome (descent_next_reads.Post κs) (λ r e. reached r)
descent_next_unique κs x r s e f p q = alike r s (determined itself p.0 q.0) (determined itself p.1 q.1)

pub descent_down_unique : (κs : Lfts 0) → OneOutcome (descent_down_reads.Post κs) (λ r e. reached r)
descent_down_unique κs x r s e f p q = alike r s (determined itself p.0 q.0) (determined itself p.1 q.1)

pub descent_region_unique : (κs : Lfts 0) → OneOutcome (descent_region_reads.Post κs) (λ r e. r)
descent_region_unique κs x r s e f p q = determined itself p q

pub descent_here_unique : (κs : Lfts 0) → OneOutcome (descent_here_reads.Post κs) (λ r e. told r)
descent_here_unique κs x r s e f p q = level_alike r s (determined itself p.0 q.0) (determined itself p.1 q.1)

pub level_end_unique : (κs : Lfts 0) → OneOutcome (level_end_reads.Post κs) (λ r e. r)
level_end_unique κs x r s e f p q = determined itself p q

-- the layout itself, or its refusal
pub fitting_of_unique : (κs : Lfts 0) → OneOutcome (fitting_of_reads.Post κs) (λ r e. fitting_told r)
fitting_of_unique κs x r s e f p q = determined (outcome_known _) p q

-- the record and the numbers themselves, or their refusal
pub stored_of_unique : (κs : Lfts 1) → OneOutcome (stored_of_reads.Post κs) (λ r e. stored_told r)
stored_of_unique κs x r s e f p q = determined (outcome_known _) p q

pub stored_layout_unique : (κs : Lfts 1) → OneOutcome (stored_layout_reads.Post κs) (λ r e. r.layout)
stored_layout_unique κs x r s e f p q = determined itself p q

pub stored_levels_unique : (κs : Lfts 1) → OneOutcome (stored_levels_reads.Post κs) (λ r e. r)
stored_levels_unique κs x r s e f p q = determined itself p q

pub stored_level_unique : (κs : Lfts 1) → OneOutcome (stored_level_reads.Post κs) (λ r e. told r)
stored_level_unique κs x r s e f p q = level_alike r s (determined itself p.0 q.0) (determined itself p.1 q.1)

pub stored_end_unique : (κs : Lfts 1) → OneOutcome (stored_end_reads.Post κs) (λ r e. r)
stored_end_unique κs x r s e f p q = determined itself p q

pub region_in_unique : (κs : Lfts 1) → OneOutcome (region_in_reads.Post κs) (λ r e. r)
region_in_unique κs x r s e f p q = determined itself p q

pub put_unique : (κs : Lfts 2) → OneOutcome (put_reads.Post κs) (λ r e. e.0.now)
put_unique κs x r s e f p q = determined itself p q

pub span_unique : (κs : Lfts 1) → OneOutcome {O = (ℕ × ℕ) × List ℕ} (span_reads.Post κs) (λ r e. (r.ref_ptr, r.now))
span_unique κs x r s e f p q = rw (determined itself p.0 q.0, determined itself p.2 q.2)

-- the frame; of spill and scratch nothing is said but their lengths (docs/EXCEPTIONS.md)
pub build_spilled_unique : (κs : Lfts 4) → OneOutcome (build_spilled_reads.Post κs) (λ r e. e.1.0.now)
build_spilled_unique κs x r s e f p q = determined itself p q

pub fill_unique : (κs : Lfts 1) → OneOutcome (fill_reads.Post κs) (λ r e. e.0.now)
fill_unique κs x r s e f p q = determined itself p q

-- ---- the calls of `stored`, `lookups` and `planes`
pub level_regions_unique : (κs : Lfts 0) → OneOutcome (level_regions_reads.Post κs) (λ r e. r)
level_regions_unique κs x r s e f p q = determined (outcome_known no_stored) p q

pub stored_tested_unique : (κs : Lfts 1) → OneOutcome (stored_tested_reads.Post κs) (λ r e. r)
stored_tested_unique κs x r s e f p q = determined tested_known p q

pub change_unique : (κs : Lfts 1) → OneOutcome (change_reads.Post κs) (λ r e. r)
change_unique κs x r s e f p q = determined (outcome_known no_stored) p q

pub written_end_unique : (κs : Lfts 1) → OneOutcome (written_end_reads.Post κs) (λ r e. r)
written_end_unique κs x r s e f p q = determined (outcome_known 0) p q

pub needs_unique : (κs : Lfts 1) → OneOutcome (needs_reads.Post κs) (λ r e. r)
needs_unique κs x r s e f p q = determined (outcome_known no_needs) p q

pub row_tested_unique : (κs : Lfts 1) → OneOutcome (row_tested_reads.Post κs) (λ r e. r)
row_tested_unique κs x r s e f p q = determined tested_known p q

pub row_place_unique : (κs : Lfts 1) → OneOutcome (row_place_reads.Post κs) (λ r e. r)
row_place_unique κs x r s e f p q = determined (outcome_known no_run) p q

pub level_plane_unique : (κs : Lfts 1) → OneOutcome (level_plane_reads.Post κs) (λ r e. r)
level_plane_unique κs x r s e f p q = determined (outcome_known no_level_plane) p q

-- the bytes of the row, and where they lie
pub row_unique : (κs : Lfts 2) → OneOutcome {O = (ℕ × ℕ) × List ℕ} (row_reads.Post κs) (λ r e. (r.ref_ptr, r.now))
row_unique κs x r s e f p q = rw (determined itself p.0 q.0, determined itself p.1 q.1)

-- the answer and the frame
pub clear_margins_unique : (κs : Lfts 2) → OneOutcome {O = Result ⊤ Refusal × List ℕ} (clear_margins_reads.Post κs) (λ r e. (r, e.0.now))
clear_margins_unique κs x r s e f p q = determined left_known {a = (r, e.0.now)} {b = (s, f.0.now)} p q

-- the answer, the frame, and what spill and scratch are left as
pub build_plane_by_unique : (κs : Lfts 5) → OneOutcome {O = Result ⊤ Refusal × List ℕ × List ℕ × List ℕ} (build_plane_by_reads.Post κs) (λ r e. (r, e.1.0.now, e.1.1.0.now, e.1.1.1.0.now))
build_plane_by_unique κs x r s e f p q = one_left p q

pub build_plane_unique : (κs : Lfts 5) → OneOutcome {O = Result ⊤ Refusal × List ℕ × List ℕ × List ℕ} (build_plane_reads.Post κs) (λ r e. (r, e.0.now, e.1.0.now, e.1.1.0.now))
build_plane_unique κs x r s e f p q = build_plane_by_unique κs (true, x) r s (true, e) (true, f) p q
