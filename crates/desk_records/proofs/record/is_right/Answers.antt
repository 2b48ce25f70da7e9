use Rattle.std.proofs.Common.{◌≡◌, ◌≤◌, ◌+◌, ◌++◌, length, take, arith, sym, ap, subst, ◌∙◌}
use Rattle.desk_key.specs.Hmac.{tag_under}
use Rattle.desk_records.specs.declared.record.TheConstants.{RECORD_BYTES, LENGTH_BYTES, OTHER_BYTES}
use Rattle.desk_records.proofs.Rights.{right_from, announced_tag, wanted_tag}
use Rattle.desk_records.proofs.record.is_right.Goals as goal

pub returns : goal.returns
returns c = λ h.
    let block = c.args.key.now.block.value in
    let bytes = c.args.bytes.now in
    let carried = c.payload_length-carried.result in
    let announced = c.payload_length-carried.ensures in
    let same : c.tag_after.result ≡ c.tag_of_two-tag.result = c.are_same_tags.ensures.0 h in
    let wanted : c.tag_of_two-tag.result ≡ wanted_tag block c.args.count carried bytes =
    c.tag_of_two-tag.ensures
    ∙ ap (λ l. tag_under block (l ++ take (carried + LENGTH_BYTES) bytes)) c.to_be_bytes.ensures in
    right_from block c.args.count bytes record {
      least = subst (λ m. 1 ≤ m) announced (omega arith);
      most = subst (λ m. m ≤ RECORD_BYTES) announced (omega arith);
      long = subst (λ m. m + OTHER_BYTES ≤ length bytes) announced (omega arith);
      tag = subst (λ m. announced_tag m bytes ≡ wanted_tag block c.args.count m bytes) announced
          (sym c.tag_after.ensures ∙ same ∙ wanted);
    }
