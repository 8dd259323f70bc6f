-- The small programs have the first faults that are said of them: the checker computes each.
use Rattle.std.proofs.Common.{refl}
use Rattle.cv_core.specs.Worked.{StatementsFail, ContractsFail, HeadingsFail, OrderOfFaults, LimitsPass}

pub statements_fail : StatementsFail
statements_fail = record { fine = refl; unknown = refl; mismatched = refl; counted = refl; jumps = refl; listed = refl; calls_main = refl; place = refl }

pub contracts_fail : ContractsFail
contracts_fail = record { fine = refl; unknown = refl; listed = refl; misformed = refl; place = refl }

pub headings_fail : HeadingsFail
headings_fail = record { global_twice = refl; literal_twice = refl; proc_twice = refl; built_in_twice = refl; formal_twice = refl; local_twice = refl; proc_and_global = refl; no_return = refl; main = refl; externs = refl; no_main = refl }

pub order_of_faults : OrderOfFaults
order_of_faults = record { heading_then_contract = refl; contract_then_locals = refl; locals_then_statements = refl; kind_then_count = refl; jump_then_end = refl; statements_in_order = refl; procedures_in_order = refl; globals_first = refl; unlisted_then_form = refl; extern_then_contract = refl }

pub limits_pass : LimitsPass
limits_pass = record { procedures = refl; globals_count = refl; literals_count = refl; literal = refl; formals = refl; locals_count = refl; statements = refl; atoms = refl; parts = refl; alternatives = refl; table_order = refl }
