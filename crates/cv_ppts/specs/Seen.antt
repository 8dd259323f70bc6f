-- What the code's view of a case stands for.
use Rattle.cv_ppts.specs.Allowed.{Scene}
use Rattle.cv_ppts.specs.declared.allowed.View.{View}

abbrev pub scene : View → Scene
scene v = record { program = v.p.now; proc = v.f.now; listed = v.listed.now; named = v.named; blocks = v.blocks.now; codes = v.codes.now }
