-- The worked runs, computed.
use Rattle.std.proofs.Common.{sym, subst}
use Rattle.std.proofs.lemmas.List.Elements.{All-nil}
use Rattle.std.specs.Prelude.{ℕ, ◌≡◌, ◌<◌, refl, Bool, true, false, List, [], ◌∷◌, codes, Option, Some, None, ℤ, pos, negsuc}
use Rattle.cv_core.specs.declared.faults.ErrKind.TheVariants as err
use Rattle.cv_core.specs.declared.program.Item.TheVariants as item
use Rattle.cv_core.specs.declared.program.PtrTerm.TheVariants as pointer
use Rattle.cv_meaning.specs.declared.memory.Value.TheVariants as value
use Rattle.cv_meaning.specs.Contract.{global_fits}
use Rattle.cv_meaning.specs.Step.{step}
use Rattle.cv_core.specs.declared.program.Form.TheVariants as form
use Rattle.cv_core.specs.declared.program.Operand.TheVariants as operand
use Rattle.cv_core.specs.declared.program.ResultKind.TheVariants as answer
use Rattle.cv_meaning.specs.Clean.{IsInt, IsOut, IsStart, IsWorld, IsError}
use Rattle.cv_meaning.specs.State.{Frame}
use Rattle.cv_meaning.specs.Call.{call, may_enter, entered}
use Rattle.cv_meaning.specs.Run.{End, Stopped, Error, Returned, run_main, main_frame, run, run_within, one_step, turn}
use Rattle.cv_meaning.specs.Worked.{RunsEnd, StoresPastItsBuffer, at, b, buf, no_contract, p, proc, ptr, returns_number, number_of, output_of, world, quiet, stores_at, reads_behind, returns_local, adds, counts_down, calls_on, stores_literal, hi, stores_global, two_bytes, stores_unasked, loads_null, compares_wild, allocates, echoes, asks, skips}

last_byte_is : number_of (run_main 4 (stores_at (pos 3)) [] [] quiet) ≡ Some (pos 0)
unfolding run_main run run_within one_step turn step call global_fits
last_byte_is = refl

one_step_short_is : run_main 3 (stores_at (pos 3)) [] [] quiet ≡ Stopped []
unfolding run_main run run_within one_step turn step call global_fits
one_step_short_is = refl

past_the_end_is : run_main 100 (stores_at (pos 4)) [] [] quiet ≡ Error err.Bounds 0 4 []
unfolding run_main run run_within one_step turn step call global_fits
past_the_end_is = refl

moved_past_the_end_is : run_main 100 (stores_at (pos 5)) [] [] quiet ≡ Error err.Bounds 0 3 []
unfolding run_main run run_within one_step turn step call global_fits
moved_past_the_end_is = refl

moved_before_the_start_is : run_main 100 (stores_at (negsuc 0)) [] [] quiet ≡ Error err.Bounds 0 3 []
unfolding run_main run run_within one_step turn step call global_fits
moved_before_the_start_is = refl

behind_first_zero_is : run_main 100 reads_behind [] [] quiet ≡ Error err.Terminator 0 6 []
unfolding run_main run run_within one_step turn step call global_fits
behind_first_zero_is = refl

dead_result_is : run_main 100 returns_local [] [] quiet ≡ Error err.Dead 0 3 []
unfolding run_main run run_within one_step turn step call global_fits
dead_result_is = refl

nine_is : number_of (run_main 100 (adds (pos 1)) (value.Int (pos 9) ∷ []) [] quiet) ≡ Some (pos 10)
unfolding run_main run run_within one_step turn step call global_fits
nine_is = refl

ten_is : run_main 100 (adds (pos 1)) (value.Int (pos 10) ∷ []) [] quiet ≡ Error err.Requires 0 1 []
unfolding run_main run run_within one_step turn step call global_fits
ten_is = refl

ten_without_steps_is : run_main 0 (adds (pos 1)) (value.Int (pos 10) ∷ []) [] quiet ≡ Error err.Requires 0 1 []
unfolding run_main run run_within one_step turn step call global_fits
ten_without_steps_is = refl

broken_ensures_is : run_main 100 (adds (pos 2)) (value.Int (pos 9) ∷ []) [] quiet ≡ Error err.Ensures 0 4 []
unfolding run_main run run_within one_step turn step call global_fits
broken_ensures_is = refl

down_is : number_of (run_main 100 counts_down [] [] quiet) ≡ Some (pos 0)
unfolding run_main run run_within one_step turn step call global_fits
down_is = refl

down_in_24_is : number_of (run_main 24 counts_down [] [] quiet) ≡ Some (pos 0)
unfolding run_main run run_within one_step turn step call global_fits
down_in_24_is = refl

down_in_23_is : run_main 23 counts_down [] [] quiet ≡ Stopped []
unfolding run_main run run_within one_step turn step call global_fits
down_in_23_is = refl

stopped_recursion_is : run_main 1000 calls_on [] [] quiet ≡ Stopped []
unfolding run_main run run_within one_step turn step call global_fits
stopped_recursion_is = refl

literal_stored_to_is : run_main 100 stores_literal [] (hi ∷ []) quiet ≡ Error err.Literal 0 3 []
unfolding run_main run run_within one_step turn step call global_fits
literal_stored_to_is = refl

global_not_modified_is : run_main 100 (stores_global []) [] (two_bytes ∷ []) quiet ≡ Error err.Modifies 0 3 []
unfolding run_main run run_within one_step turn step call global_fits
global_not_modified_is = refl

global_modified_is : number_of (run_main 100 (stores_global (item.Body (pointer.Name (codes "g")) ∷ [])) [] (two_bytes ∷ []) quiet) ≡ Some (pos 7)
unfolding run_main run run_within one_step turn step call global_fits
global_modified_is = refl

argument_not_modified_is : run_main 100 stores_unasked [] [] quiet ≡ Error err.Modifies 0 3 []
unfolding run_main run run_within one_step turn step call global_fits
argument_not_modified_is = refl

null_load_is : run_main 100 loads_null [] [] quiet ≡ Error err.Null 0 3 []
unfolding run_main run run_within one_step turn step call global_fits
null_load_is = refl

wild_is_null_is : number_of (run_main 9 compares_wild [] [] (world [] (pos 7 ∷ []) [] [])) ≡ Some (pos 2)
unfolding run_main run run_within one_step turn step call global_fits
wild_is_null_is = refl

wild_is_not_null_is : number_of (run_main 9 compares_wild [] [] quiet) ≡ Some (pos 1)
unfolding run_main run run_within one_step turn step call global_fits
wild_is_not_null_is = refl

malloc_answers_1_is : number_of (run_main 9 allocates [] [] (world [] [] (true ∷ []) [])) ≡ Some (pos 0)
unfolding run_main run run_within one_step turn step call global_fits
malloc_answers_1_is = refl

malloc_answers_0_is : run_main 9 allocates [] [] (world [] [] (false ∷ []) []) ≡ Error err.Null 0 4 []
unfolding run_main run run_within one_step turn step call global_fits
malloc_answers_0_is = refl

echo_writes_is : output_of (run_main 9 echoes [] [] (world (65 ∷ []) [] [] [])) ≡ 65 ∷ 255 ∷ []
unfolding run_main run run_within one_step turn step call global_fits
echo_writes_is = refl

input_ends_is : number_of (run_main 9 echoes [] [] (world (65 ∷ []) [] [] [])) ≡ Some (negsuc 0)
unfolding run_main run run_within one_step turn step call global_fits
input_ends_is = refl

extern_in_range_is : number_of (run_main 9 asks [] [] (world [] [] [] (pos 2 ∷ []))) ≡ Some (pos 2)
unfolding run_main run run_within one_step turn step call global_fits
extern_in_range_is = refl

extern_out_of_range_is : number_of (run_main 9 asks [] [] (world [] [] [] (pos 9 ∷ []))) ≡ Some (negsuc 2)
unfolding run_main run run_within one_step turn step call global_fits
extern_out_of_range_is = refl

enough_room_is : number_of (run_main 100 (skips 5) [] [] quiet) ≡ Some (pos 0)
unfolding run_main run run_within one_step turn step call global_fits
enough_room_is = refl

too_little_room_is : run_main 100 (skips 4) [] [] quiet ≡ Error err.Requires 0 16 []
unfolding run_main run run_within one_step turn step call global_fits
too_little_room_is = refl

-- the frame of main of that program
abbrev past_frame : Frame
past_frame = entered (stores_at (pos 4)) 0 (proc 1 answer.Int (codes "main") [] no_contract (buf b 4 ∷ ptr p ∷ [])
    (at 2 (form.Address p b) ∷ at 3 (form.Shift p p (operand.Number (pos 4))) ∷ at 4 (form.Store p (operand.Number (pos 0))) ∷ at 5 (returns_number (pos 0)) ∷ [])) [] []

past_begins : main_frame (stores_at (pos 4)) [] [] ≡ Some past_frame
past_begins = refl

past_enters : may_enter (stores_at (pos 4)) past_frame ≡ true
past_enters = refl

past_starts : IsStart (stores_at (pos 4)) past_frame.proc.formals [] []
past_starts = record { globals = []; outs = []; is = refl; are_globals = tt; are_outs = All-nil IsOut; are_args = tt }

quiet_world : IsWorld quiet
quiet_world = record { input = All-nil (λ b. b < 256); fresh = All-nil IsInt; answers = All-nil IsInt }

pub not_clean : StoresPastItsBuffer
not_clean clean = clean.never_errs 100 [] [] quiet past_frame past_begins past_starts quiet_world past_enters (subst IsError (sym past_the_end_is) tt)

pub runs_end : RunsEnd
runs_end = record {
  last_byte = last_byte_is;
  one_step_short = one_step_short_is;
  past_the_end = past_the_end_is;
  moved_past_the_end = moved_past_the_end_is;
  moved_before_the_start = moved_before_the_start_is;
  behind_first_zero = behind_first_zero_is;
  dead_result = dead_result_is;
  nine = nine_is;
  ten = ten_is;
  ten_without_steps = ten_without_steps_is;
  broken_ensures = broken_ensures_is;
  down = down_is;
  down_in_24 = down_in_24_is;
  down_in_23 = down_in_23_is;
  stopped_recursion = stopped_recursion_is;
  literal_stored_to = literal_stored_to_is;
  global_not_modified = global_not_modified_is;
  global_modified = global_modified_is;
  argument_not_modified = argument_not_modified_is;
  null_load = null_load_is;
  wild_is_null = wild_is_null_is;
  wild_is_not_null = wild_is_not_null_is;
  malloc_answers_1 = malloc_answers_1_is;
  malloc_answers_0 = malloc_answers_0_is;
  echo_writes = echo_writes_is;
  input_ends = input_ends_is;
  extern_in_range = extern_in_range_is;
  extern_out_of_range = extern_out_of_range_is;
  enough_room = enough_room_is;
  too_little_room = too_little_room_is;
}
