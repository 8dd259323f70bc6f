use Rattle.std.proofs.Common.{◌≡◌, refl, ap, subst, ◌∙◌, ℕ, ◌≤◌, ◌^◌, List, [], ◌++◌, length}
use Rattle.cv_core.specs.Names.{local_site, locals_of}
use Rattle.cv_core.specs.declared.program.Program.{Program}
use Rattle.cv_core.specs.declared.program.Proc.{Proc}
use Rattle.cv_meaning.specs.declared.ends.Arg.{Arg}
use Rattle.cv_meaning.specs.declared.memory.Value.{Value}
use Rattle.cv_meaning.specs.Call.{entered, may_enter}
use Rattle.cv_meaning.specs.Look.{look}
use Rattle.cv_meaning.specs.Memory.{Memory}
use Rattle.cv_meaning.specs.State.{make_locals}
use Rattle.cv_interp.specs.declared.machine.Core.{Core}
use Rattle.cv_interp.specs.Entered.{arrived}
use Rattle.cv_interp.specs.Seen.{state_in}
use Rattle.cv_interp.specs.Start.{start_memory, start_values}
use Rattle.cv_interp.proofs.Launched.{start_good, starts_or_errs}
use Rattle.cv_interp.proofs.Limited.{are_few}
use Rattle.cv_interp.proofs.machine.first_core.Goals as goal

pub barred-ended-requires-clause-few : goal.barred-ended-requires-clause-few
barred-ended-requires-clause-few c = are_few c.args.program.now c.args.number c.args.main.now c.requires.limits c.requires.main.there

pub returns-clause-good : goal.returns-clause-good
returns-clause-good c =
    let P : Program = c.args.program.now in
    let main : Proc = c.args.main.now in
    let args : List Arg = c.args.args.now in
    let memory : c.in_ok-memory.field-0.memory ≡ start_memory P args = c.in_ok-memory.ensures.memory in
    let values : c.as_slice.result.now ≡ start_values P args = c.as_slice.ensures ∙ c.in_ok-memory.ensures.values ∙ ap (λ (vs : List Value). vs ++ start_values P args) c.new-values.ensures in
    let same : arrived c.args.number main c.in_ok-guest.guest c.in_ok-memory.field-0.memory ≡ entered P c.args.number main (start_values P args) (start_memory P args) =
    c.in_ok-guest.ensures.arrived c.args.number ∙ ap (λ (vs : List Value). entered P c.args.number main vs c.in_ok-memory.field-0.memory) values
    ∙ ap (λ (m : Memory). entered P c.args.number main (start_values P args) m) memory in
    let first : state_in main c.args.world c.new-2.result.items c.in_ok-room.room
    ≡ make_locals P (local_site P c.args.number) (locals_of main.body) (record { vars = look c.in_ok-guest.guest.formals; memory = start_memory P args; world = c.args.world; output = [] }) =
    ap (λ (out : List ℕ). state_in main c.args.world out c.in_ok-room.room) c.new-2.ensures.items ∙ c.in_ok-room.ensures.state
    ∙ ap (λ (n : ℕ). make_locals P n (locals_of main.body) (record { vars = look c.in_ok-guest.guest.formals; memory = c.in_ok-memory.field-0.memory; world = c.args.world; output = [] })) c.requires.site
    ∙ ap (λ (m : Memory). make_locals P (local_site P c.args.number) (locals_of main.body) (record { vars = look c.in_ok-guest.guest.formals; memory = m; world = c.args.world; output = [] })) memory in
    let few : length (start_memory P args) ≤ 2 ^ 62 =
    subst (λ (n : ℕ). n ≤ 2 ^ 62) (c.in_ok-memory.ensures.made.count ∙ ap length memory) c.in_ok-memory.ensures.made.few in
    start_good _ args (local_site P c.args.number) c.args.world c.requires.well_formed c.requires.limits c.requires.written c.requires.texts c.requires.main.there c.requires.kinds same few first
    c.in_ok-room.ensures.room c.new.ensures.items

pub returns-clause-started : goal.returns-clause-started
returns-clause-started c =
    let P : Program = c.args.program.now in
    let main : Proc = c.args.main.now in
    let args : List Arg = c.args.args.now in
    let memory : c.in_ok-memory.field-0.memory ≡ start_memory P args = c.in_ok-memory.ensures.memory in
    let values : c.as_slice.result.now ≡ start_values P args = c.as_slice.ensures ∙ c.in_ok-memory.ensures.values ∙ ap (λ (vs : List Value). vs ++ start_values P args) c.new-values.ensures in
    let same : arrived c.args.number main c.in_ok-guest.guest c.in_ok-memory.field-0.memory ≡ entered P c.args.number main (start_values P args) (start_memory P args) =
    c.in_ok-guest.ensures.arrived c.args.number ∙ ap (λ (vs : List Value). entered P c.args.number main vs c.in_ok-memory.field-0.memory) values
    ∙ ap (λ (m : Memory). entered P c.args.number main (start_values P args) m) memory in
    let first : state_in main c.args.world c.new-2.result.items c.in_ok-room.room
    ≡ make_locals P (local_site P c.args.number) (locals_of main.body) (record { vars = look c.in_ok-guest.guest.formals; memory = start_memory P args; world = c.args.world; output = [] }) =
    ap (λ (out : List ℕ). state_in main c.args.world out c.in_ok-room.room) c.new-2.ensures.items ∙ c.in_ok-room.ensures.state
    ∙ ap (λ (n : ℕ). make_locals P n (locals_of main.body) (record { vars = look c.in_ok-guest.guest.formals; memory = c.in_ok-memory.field-0.memory; world = c.args.world; output = [] })) c.requires.site
    ∙ ap (λ (m : Memory). make_locals P (local_site P c.args.number) (locals_of main.body) (record { vars = look c.in_ok-guest.guest.formals; memory = m; world = c.args.world; output = [] })) memory in
    let core : Core = record {
      alloc = c.args.alloc;
      program = c.args.program;
      waiting = c.new.result;
      running = record { number = c.args.number; proc = c.args.main; formals = c.in_ok-guest.guest.formals; entry = c.in_ok-memory.field-0.memory; permit = c.in_ok-guest.guest.permit };
      at = 0;
      store = record { room = c.in_ok-room.room; world = c.args.world; output = c.new-2.result };
      ended = c.barred-ended.result;
    } in
    starts_or_errs core c.args.number main (start_values P args) (start_memory P args) c.args.world (may_enter P (arrived c.args.number main c.in_ok-guest.guest c.in_ok-memory.field-0.memory))
    c.requires.main c.new.ensures.items refl c.new-2.ensures.items refl c.barred-ended.ensures same first
