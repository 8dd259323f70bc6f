use Rattle.cv_cert.proofs.WholeText.{one_text}
use Rattle.cv_cert.proofs.read.one_text_law.Goals as goal

pub returns : goal.returns
returns c = one_text
