-- Formals with their arguments, and the variables of a procedure as it is entered.
use Rattle.std.proofs.Common.{◌≡◌, refl, sym, ap, ◌∙◌, ℕ, zero, suc, ◌+◌, Bool, true, false, cond, List, [], ◌∷◌, ◌++◌, append_assoc, length, map, replicate, Option, Some, None}
use Rattle.std.specs.Prelude.{IsSome, if◌then◌else◌}
use Rattle.std.specs.List.{filter, filter_map}
use Rattle.std.specs.Option.{option_map}
use Rattle.std.specs.Str.{bytes_eq}
use Rattle.std.proofs.lemmas.Slice.Eq.{bytes_eq-Decides}
use Rattle.cv_core.specs.Names.{Name, locals_of}
use Rattle.cv_core.specs.declared.program.Program.{Program}
use Rattle.cv_core.specs.declared.program.Proc.{Proc}
use Rattle.cv_core.specs.declared.program.Formal.{Formal}
use Rattle.cv_core.specs.declared.program.Local.{Local}
use Rattle.cv_meaning.specs.declared.memory.NamedValue.{NamedValue}
use Rattle.cv_meaning.specs.declared.memory.Permit.{Permit}
use Rattle.cv_meaning.specs.declared.memory.Value.{Value}
use Rattle.cv_meaning.specs.declared.memory.Value.TheVariants as value
use Rattle.cv_meaning.specs.declared.memory.Ptr.TheVariants.{Wild}
use Rattle.cv_meaning.specs.Call.{entered}
use Rattle.cv_meaning.specs.Contract.{Env, Scene, item_object}
use Rattle.cv_meaning.specs.Look.{look}
use Rattle.cv_meaning.specs.Memory.{Memory}
use Rattle.cv_meaning.specs.State.{Frame, bind, no_vars}
use Rattle.cv_interp.specs.declared.entering.Guest.{Guest}
use Rattle.cv_interp.specs.Entered.{AreVariables, arguments, arrived}
use Rattle.cv_interp.specs.Slots.{env_of, is_variable, slot_in, variables_of, with_values}
use Rattle.cv_interp.specs.Takes.{HasSlot}

-- ---- the formals

wild_if : (b : Bool) (v : Value) → v ≡ value.Ptr Wild → (if b then value.Ptr Wild else v) ≡ value.Ptr Wild
wild_if true v e = refl
wild_if false v e = e

nothing : (fs : List Formal) (x : Name) → look (arguments fs []) x ≡ value.Ptr Wild
nothing [] x = refl
nothing (f ∷ fs) x = wild_if (bytes_eq f.name x) (look (arguments fs []) x) (nothing fs x)

bound_at : (fs : List Formal) (vs : List Value) (x : Name) → look (arguments fs vs) x ≡ bind fs vs no_vars x
bound_at [] vs x = refl
bound_at (f ∷ fs) [] x = wild_if (bytes_eq f.name x) (look (arguments fs []) x) (nothing fs x)
bound_at (f ∷ fs) (v ∷ vs) x = ap (λ (w : Value). if bytes_eq f.name x then v else w) (bound_at fs vs x)

pub bound_is : (fs : List Formal) (vs : List Value) → look (arguments fs vs) ≡ bind fs vs no_vars
bound_is fs vs = λ j x. bound_at fs vs x j

pub argument_names : (fs : List Formal) (vs : List Value) → map (λ (n : NamedValue). n.name) (arguments fs vs) ≡ map (λ (f : Formal). f.name) fs
argument_names [] vs = refl
argument_names (f ∷ fs) [] = ap (λ ns. f.name ∷ ns) (argument_names fs [])
argument_names (f ∷ fs) (v ∷ vs) = ap (λ ns. f.name ∷ ns) (argument_names fs vs)

pub more_arguments : (old new : List NamedValue) (f : Formal) (fs : List Formal) (v : Value) (vs : List Value) → new ≡ old ++ record { name = f.name; value = v } ∷ [] →
    new ++ arguments fs vs ≡ old ++ arguments (f ∷ fs) (v ∷ vs)
more_arguments old new f fs v vs e = ap (λ ns. ns ++ arguments fs vs) e ∙ append_assoc old (record { name = f.name; value = v } ∷ []) (arguments fs vs)

pub wild_argument : (old new : List NamedValue) (f : Formal) (fs : List Formal) → new ≡ old ++ record { name = f.name; value = value.Ptr Wild } ∷ [] →
    new ++ arguments fs [] ≡ old ++ arguments (f ∷ fs) []
wild_argument old new f fs e = ap (λ ns. ns ++ arguments fs []) e ∙ append_assoc old (record { name = f.name; value = value.Ptr Wild } ∷ []) (arguments fs [])

-- ---- the frame

abbrev entry_scene : Program → Env → Memory → Scene
entry_scene P vars m = record { globals = P.globals; formals = vars; entry = m; now = m; answer = None; first = length m }

abbrev entry_frame : Program → ℕ → Proc → Memory → Env → Frame
entry_frame P i g m vars = record {
  number = i;
  proc = g;
  formals = vars;
  entry = m;
  permit = record {
    first = length m;
    allowed = filter_map (item_object (entry_scene P vars m)) g.contract.changes;
    literals = (length P.globals, length P.globals + length P.literals);
  };
}

pub arrived_is : (P : Program) (i : ℕ) (g : Proc) (args : List Value) (m : Memory) (guest : Guest) (made : ℕ) → made ≡ length m → guest.formals ≡ arguments g.formals args →
    guest.permit ≡ record {
      first = made;
      allowed = filter_map (item_object (record { globals = P.globals; formals = look guest.formals; entry = m; now = m; answer = None; first = made })) g.contract.changes;
      literals = (length P.globals, length P.globals + length P.literals);
    } → arrived i g guest m ≡ entered P i g args m
arrived_is P i g args m guest made len formals permit =
    ap (λ (p : Permit). record { number = i; proc = g; formals = look guest.formals; entry = m; permit = p }) permit
    ∙ ap (λ n. record {
      number = i;
      proc = g;
      formals = look guest.formals;
      entry = m;
      permit = record {
        first = n;
        allowed = filter_map (item_object (record { globals = P.globals; formals = look guest.formals; entry = m; now = m; answer = None; first = n })) g.contract.changes;
        literals = (length P.globals, length P.globals + length P.literals);
      };
    }) len
    ∙ ap (λ (vars : Env). entry_frame P i g m vars) (ap look formals ∙ bound_is g.formals args)

-- ---- the variables

wilds : (ns : List Name) (n : ℕ) (x : Name) → look (with_values ns (replicate n (value.Ptr Wild))) x ≡ value.Ptr Wild
wilds [] n x = refl
wilds (m ∷ ns) zero x = refl
wilds (m ∷ ns) (suc n) x = wild_if (bytes_eq m x) (look (with_values ns (replicate n (value.Ptr Wild))) x) (wilds ns n x)

first_at : (fs : List NamedValue) (ns : List Name) (n : ℕ) (x : Name) →
    look (with_values (map (λ (f : NamedValue). f.name) fs ++ ns) (map (λ (f : NamedValue). f.value) fs ++ replicate n (value.Ptr Wild))) x ≡ look fs x
first_at [] ns n x = wilds ns n x
first_at (f ∷ fs) ns n x = ap (λ (w : Value). if bytes_eq f.name x then f.value else w) (first_at fs ns n x)

pub first_env : (g : Proc) (fs : List NamedValue) (vs : List Value) (n : ℕ) → map (λ f. f.name) fs ≡ map (λ f. f.name) g.formals →
    vs ≡ map (λ f. f.value) fs ++ replicate n (value.Ptr Wild) → env_of g vs ≡ look fs
unfolding env_of
first_env g fs vs n names e =
    ap (λ (ws : List Value). look (with_values (map (λ (f : Formal). f.name) g.formals ++ variables_of (locals_of g.body)) ws)) e
    ∙ ap (λ (ns : List Name). look (with_values (ns ++ variables_of (locals_of g.body)) (map (λ (f : NamedValue). f.value) fs ++ replicate n (value.Ptr Wild)))) (sym names)
    ∙ (λ j x. first_at fs (variables_of (locals_of g.body)) n x j)

-- ---- the variables among the locals have slots

some_if : (b : Bool) (o : Option ℕ) → IsSome o → IsSome (if b then Some 0 else option_map suc o)
some_if true o h = refl
some_if false None h = absurd (cc)
some_if false (Some i) h = refl

slot_among : (ms ns : List Name) (x : Name) → IsSome (slot_in ns x) → IsSome (slot_in (ms ++ ns) x)
slot_among [] ns x h = h
slot_among (m ∷ ms) ns x h = some_if (bytes_eq m x) (slot_in (ms ++ ns) x) (slot_among ms ns x h)

same_name : (x : Name) → bytes_eq x x ≡ true
same_name x = (bytes_eq-Decides x x).1 refl

here : (b : Bool) (o : Option ℕ) → b ≡ true → IsSome (if b then Some 0 else option_map suc o)
here b o e = rw e refl

-- each variable of the tail `ls` of the locals is one of f's
tail_variables : (f : Proc) (ls : List Local) → ((x : Name) → IsSome (slot_in (variables_of ls) x) → HasSlot f x) → AreVariables f ls
tail_variables f [] h = tt
tail_variables f (l ∷ ls) h = (
  λ v. h l.name (rw v (here (bytes_eq l.name l.name) (slot_in (variables_of ls) l.name) (same_name l.name))),
  tail_variables f ls (λ x s. h x (later (is_variable l.body) x s)),
)
  where
    later : (b : Bool) (x : Name) → IsSome (slot_in (variables_of ls) x) →
        IsSome (slot_in (map (λ (k : Local). k.name) (cond b (l ∷ filter (λ (k : Local). is_variable k.body) ls) (filter (λ (k : Local). is_variable k.body) ls))) x)
    later true x s = some_if (bytes_eq l.name x) (slot_in (variables_of ls) x) s
    later false x s = s

pub are_variables : (f : Proc) → AreVariables f (locals_of f.body)
are_variables f = tail_variables f (locals_of f.body) (λ x s. slot_among (map (λ g. g.name) f.formals) (variables_of (locals_of f.body)) x s)
