-- The definition's path and reading for those that code holds.
use Rattle.cv_ppts.specs.Paths.{AllocOf as alloc_of, Answered as answered, NumberOf as number_of, Named as named, OffsetOf as offset_of, Path, Reading, Starred as starred, StrlenOf as strlen_of}
use Rattle.cv_ppts.specs.declared.path.Path.{Path as Held}
use Rattle.cv_ppts.specs.declared.path.Path.TheVariants as path
use Rattle.cv_ppts.specs.declared.path.Reading.{Reading as HeldReading}
use Rattle.cv_ppts.specs.declared.path.Reading.TheVariants as reading

abbrev pub seen_path : Held → Path
seen_path (path.Named x) = named x.now
seen_path (path.Starred w) = starred w.now
seen_path path.Answered = answered

abbrev pub seen_reading : HeldReading → Reading
seen_reading (reading.NumberOf p) = number_of (seen_path p)
seen_reading (reading.AllocOf p) = alloc_of p.now
seen_reading (reading.OffsetOf p) = offset_of p.now
seen_reading (reading.StrlenOf p) = strlen_of p.now
