use Rattle.cv_ppts.specs.Numbers.{codes_of}
use Rattle.cv_ppts.proofs.Called.{malloc_first, malloc_second}
use Rattle.cv_ppts.proofs.calls.missing_malloc.Goals as goal

pub returns-in-Some-missing_code : goal.returns-in-Some-missing_code
returns-in-Some-missing_code c = malloc_first (codes_of c.args.sets.now) c.args.target c.args.into c.in-Some.place _ _ c.in-Some.is c.in-Some-missing_code.ensures

pub returns-in-None-missing_code : goal.returns-in-None-missing_code
returns-in-None-missing_code c = malloc_second (codes_of c.args.sets.now) c.args.target c.args.into c.in-Some.place _ c.in-Some.is c.in-None-missing_code.ensures c.missing_target.ensures
