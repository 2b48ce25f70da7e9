use Rattle.desk_send.proofs.Requests.{request_is}
use Rattle.desk_send.proofs.request.request_bytes.Goals as goal

pub returns : goal.returns
returns c = λ text h.
    rw (
      c.in_ok-extend_from_slice-2.ensures.items,
      c.in_ok-extend_from_slice.ensures.items,
      c.new-bytes.ensures.items,
      c.as_slice.ensures.value,
      c.as_bytes.ensures.value,
      c.request_end.ensures,
    ) (request_is _ _ text h)
