use Rattle.std.proofs.Common.{◌++◌, [], ◌∷◌, List, ℕ, ap, ◌∙◌, codes, length, decimal}
use Rattle.std.specs.List.{flat_map}
use Rattle.cv_cert.specs.Text.{line_text}
use Rattle.cv_cert.specs.Writing.{set_text, block_text}
use Rattle.cv_cert.proofs.Written.{five, certificate_is}
use Rattle.cv_cert.proofs.write.text_with.Goals as goal

pub returns : goal.returns
returns c =
    let sets = c.args.sets.now in
    let blocks = c.args.blocks.now in
    let first = c.in_ok-extend_from_slice.ensures.items ∙ ap (λ (u : List ℕ). u ++ (codes "cssv-cert 1" ++ 10 ∷ [])) c.new-out.ensures.items in
    five [] (codes "cssv-cert 1" ++ 10 ∷ []) (line_text (codes "points" ∷ decimal (length sets) ∷ [])) (flat_map set_text sets) (flat_map block_text blocks) (codes "end" ++ 10 ∷ [])
    c.extend_from_slice.new.self.items c.push_count.new.out.items c.push_sets.new.out.items c.push_blocks.new.out.items c.extend_from_slice-2.new.self.items first c.in_ok-push_count.ensures c.in_ok-push_sets.ensures c.in_ok-push_blocks.ensures c.in_ok-extend_from_slice-2.ensures.items
    ∙ certificate_is (record { sets = sets; blocks = blocks })
