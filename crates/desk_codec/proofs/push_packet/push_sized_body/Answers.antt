use Rattle.std.proofs.Common.{◌≡◌, ◌≤◌, [], ◌∷◌, length, arith, ap, length-append}
use Rattle.desk_types.specs.declared.limits.TheConstants.{BODY_BYTES}
use Rattle.desk_codec.specs.Spelling.{body_spelling}
use Rattle.desk_codec.proofs.Bodies.{body_length}
use Rattle.desk_codec.proofs.Putting.{put_sized, room_for_length, grows_after, was_refused, holds_refused}
use Rattle.desk_codec.proofs.push_packet.push_sized_body.Goals as goal

pub overflow_cast-count : goal.overflow_cast-count
overflow_cast-count c =
    let command = c.args.command.now in
    let before = c.args.out.now.items in
    let body = body_spelling command in
    let le : length body ≤ BODY_BYTES = body_length command c.in_ok-push_body.ensures.fits in
    let zeros = ap length c.in_ok-push_bytes.ensures.spelling in
    let all = ap length c.in_ok-push_body.ensures.spelling in
    omega (
      arith,
      le,
      zeros,
      all,
      length-append before (0 ∷ 0 ∷ []),
      length-append c.push_bytes.new.out.items body,
      c.len.ensures,
      c.len-at.ensures,
    )

pub returns : goal.returns
returns c =
    let before = c.args.out.now.items in
    let two = c.push_body.new.out.items in
    let put = c.in_ok-push_body.ensures in
    let at : c.len-at.result ≡ length before = omega (arith, c.len-at.ensures) in
    let len : c.len.result ≡ length two = omega (arith, c.len.ensures) in
    record {
      spelling = put_sized before c.push_bytes.new.out.items two c.write_u16.new.out.items
          (body_spelling c.args.command.now) c.len-at.result c.len.result at c.in_ok-push_bytes.ensures.spelling
          put.spelling len c.write_u16.ensures;
      fits = put.fits;
      err = tt;
    }

pub returns-in_err-push_body : goal.returns-in_err-push_body
returns-in_err-push_body c =
    let out = c.push_body.new.out.items in
    let result = c.from_residual-in_err-push_body.result in
    let refused = c.from_residual-in_err-push_body.ensures.0 in
    record {
      spelling = was_refused result _ refused;
      fits = was_refused result _ refused;
      err = holds_refused result _ (grows_after c.args.out.now.items c.push_bytes.new.out.items out _
          c.in_ok-push_bytes.ensures.spelling c.in_err-push_body.ensures.err);
    }

pub write_u16-requires : goal.write_u16-requires
write_u16-requires c =
    let room = room_for_length c.args.out.now.items c.push_bytes.new.out.items c.push_body.new.out.items _
    c.in_ok-push_bytes.ensures.spelling c.in_ok-push_body.ensures.spelling in
    omega (arith, room, c.len-at.ensures)

pub overflow_sub-count : goal.overflow_sub-count
overflow_sub-count c =
    let room = room_for_length c.args.out.now.items c.push_bytes.new.out.items c.push_body.new.out.items _
    c.in_ok-push_bytes.ensures.spelling c.in_ok-push_body.ensures.spelling in
    omega (arith, room, c.len-at.ensures, c.len.ensures)

pub overflow_sub-count-2 : goal.overflow_sub-count-2
overflow_sub-count-2 c =
    let room = room_for_length c.args.out.now.items c.push_bytes.new.out.items c.push_body.new.out.items _
    c.in_ok-push_bytes.ensures.spelling c.in_ok-push_body.ensures.spelling in
    omega (arith, room, c.len-at.ensures, c.len.ensures)
