use Rattle.std.proofs.Common.{rules}
use Rattle.std.proofs.lemmas.List.Sorted.{answers_always}
use Rattle.cv_farkas.proofs.SearchLemmas.{entry_lt, entry_order, index_from}
use Rattle.cv_farkas.proofs.search.index_of.Goals as goal

pub returns : goal.returns
returns c =
    index_from c.args.rows.now c.in_ok-entries.entries.items c.sort_unstable_by.new.self.items c.in_ok-entries.ensures c.sort_unstable_by.ensures.permutation
    (c.sort_unstable_by.ensures.sorted entry_lt entry_order (answers_always _ _ _ (λ f a r g h. search rules)))
