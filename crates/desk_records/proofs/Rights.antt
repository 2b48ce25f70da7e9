-- Right records.
use Rattle.std.proofs.Common.{◌≡◌, ◌≤◌, ◌<◌, ℕ, ◌+◌, ◌&&◌, true, false, leb, List, [], ◌++◌, length, take, drop}
use Rattle.std.proofs.Common.{refl, sym, ap, subst, ◌∙◌, arith}
use Rattle.std.specs.Int.{w32, w64, from_be_bytes, to_be_bytes}
use Rattle.std.proofs.lemmas.Bool.{and_parts, and_from, leb-true, le-leb, false_from_ne_true}
use Rattle.std.proofs.lemmas.List.{length-append, length-drop, length-take, take_all, take_at, drop_at, drop_all}
use Rattle.std.proofs.lemmas.List.{take-take, take-append-le, drop-append-le}
use Rattle.std.proofs.lemmas.Nat.{from_be_bytes-to_be_bytes_4}
use Rattle.desk_key.proofs.Tags.{length-tag}
use Rattle.desk_key.specs.Hmac.{tag_under}
use Rattle.desk_key.specs.declared.hmac.TheConstants.{TAG_BYTES}
use Rattle.desk_records.specs.declared.record.TheConstants.{RECORD_BYTES, LENGTH_BYTES, OTHER_BYTES}
use Rattle.desk_records.specs.Same.{are_same}
use Rattle.desk_records.specs.Records.{is_right, payload_length, payload_of, after_record, record_bytes, with_tag}
use Rattle.desk_records.proofs.Sames.{same_from_test, test_from_same}

-- the tag that stands after n bytes and their length, and the one that is to stand there
abbrev pub announced_tag : ℕ → List ℕ → List ℕ
announced_tag n bytes = take TAG_BYTES (drop (n + LENGTH_BYTES) bytes)

abbrev pub wanted_tag : List ℕ → ℕ → ℕ → List ℕ → List ℕ
wanted_tag block count n bytes = tag_under block (to_be_bytes w64 count ++ take (n + LENGTH_BYTES) bytes)

-- what a right record has
pub record RightParts (block : List ℕ) (count : ℕ) (bytes : List ℕ) : Type 0 where
  pub least : 1 ≤ payload_length bytes
  pub most : payload_length bytes ≤ RECORD_BYTES
  pub long : payload_length bytes + OTHER_BYTES ≤ length bytes
  pub tag : announced_tag (payload_length bytes) bytes ≡ wanted_tag block count (payload_length bytes) bytes

pub right_parts : (block : List ℕ) (count : ℕ) (bytes : List ℕ) → is_right block count bytes ≡ true →
    RightParts block count bytes
unfolding is_right
right_parts block count bytes h =
    let n = payload_length bytes in
    let halves = and_parts (leb 1 n && leb n RECORD_BYTES) (leb (n + OTHER_BYTES) (length bytes)
    && are_same (announced_tag n bytes) (wanted_tag block count n bytes)) h in
    let sizes = and_parts (leb 1 n) (leb n RECORD_BYTES) halves.0 in
    let others = and_parts (leb (n + OTHER_BYTES) (length bytes))
    (are_same (announced_tag n bytes) (wanted_tag block count n bytes)) halves.1 in
    record {
      least = leb-true 1 n sizes.0;
      most = leb-true n RECORD_BYTES sizes.1;
      long = leb-true (n + OTHER_BYTES) (length bytes) others.0;
      tag = same_from_test (announced_tag n bytes) (wanted_tag block count n bytes) others.1;
    }

pub right_from : (block : List ℕ) (count : ℕ) (bytes : List ℕ) → RightParts block count bytes →
    is_right block count bytes ≡ true
unfolding is_right
right_from block count bytes p =
    let n = payload_length bytes in
    and_from (leb 1 n && leb n RECORD_BYTES) (leb (n + OTHER_BYTES) (length bytes)
    && are_same (announced_tag n bytes) (wanted_tag block count n bytes))
    (and_from (leb 1 n) (leb n RECORD_BYTES) (le-leb 1 n p.least) (le-leb n RECORD_BYTES p.most))
    (and_from (leb (n + OTHER_BYTES) (length bytes)) (are_same (announced_tag n bytes) (wanted_tag block count n bytes))
    (le-leb (n + OTHER_BYTES) (length bytes) p.long)
    (test_from_same (announced_tag n bytes) (wanted_tag block count n bytes) p.tag))

-- ---- more bytes after a right record

length_more : (xs ys : List ℕ) → LENGTH_BYTES ≤ length xs → payload_length (xs ++ ys) ≡ payload_length xs
length_more xs ys h = ap (from_be_bytes w32) (take-append-le LENGTH_BYTES xs ys h)

pub right_more : (block : List ℕ) (count : ℕ) (xs ys : List ℕ) → is_right block count xs ≡ true →
    is_right block count (xs ++ ys) ≡ true
right_more block count xs ys h =
    let p = right_parts block count xs h in
    let n = payload_length xs in
    let long : payload_length xs + OTHER_BYTES ≤ length xs = p.long in
    let e : payload_length (xs ++ ys) ≡ payload_length xs = length_more xs ys (omega arith) in
    let room : TAG_BYTES ≤ length (drop (payload_length xs + LENGTH_BYTES) xs) =
    omega (arith, length-drop (payload_length xs + LENGTH_BYTES) xs) in
    let announced : announced_tag n (xs ++ ys) ≡ announced_tag n xs =
    ap (take TAG_BYTES) (drop-append-le (n + LENGTH_BYTES) xs ys (omega arith))
    ∙ take-append-le TAG_BYTES (drop (n + LENGTH_BYTES) xs) ys room in
    let wanted : wanted_tag block count n (xs ++ ys) ≡ wanted_tag block count n xs =
    ap (λ l. tag_under block (to_be_bytes w64 count ++ l)) (take-append-le (n + LENGTH_BYTES) xs ys (omega arith)) in
    right_from block count (xs ++ ys) record {
      least = subst (λ m. 1 ≤ m) (sym e) p.least;
      most = subst (λ m. m ≤ RECORD_BYTES) (sym e) p.most;
      long = subst (λ m. m + OTHER_BYTES ≤ length (xs ++ ys)) (sym e) (omega (arith, length-append xs ys));
      tag = subst (λ m. announced_tag m (xs ++ ys) ≡ wanted_tag block count m (xs ++ ys)) (sym e)
          (announced ∙ p.tag ∙ sym wanted);
    }

pub payload_more : (block : List ℕ) (count : ℕ) (xs ys : List ℕ) → is_right block count xs ≡ true →
    payload_of (xs ++ ys) ≡ payload_of xs
payload_more block count xs ys h =
    let n = payload_length xs in
    let long : payload_length xs + OTHER_BYTES ≤ length xs = (right_parts block count xs h).long in
    let room : payload_length xs ≤ length (drop LENGTH_BYTES xs) = omega (arith, length-drop LENGTH_BYTES xs) in
    ap (λ m. take m (drop LENGTH_BYTES (xs ++ ys))) (length_more xs ys (omega arith))
    ∙ ap (take n) (drop-append-le LENGTH_BYTES xs ys (omega arith))
    ∙ take-append-le n (drop LENGTH_BYTES xs) ys room

pub after_more : (block : List ℕ) (count : ℕ) (xs ys : List ℕ) → is_right block count xs ≡ true →
    after_record (xs ++ ys) ≡ after_record xs ++ ys
after_more block count xs ys h =
    let n = payload_length xs in
    let long : payload_length xs + OTHER_BYTES ≤ length xs = (right_parts block count xs h).long in
    ap (λ m. drop (m + OTHER_BYTES) (xs ++ ys)) (length_more xs ys (omega arith))
    ∙ drop-append-le (n + OTHER_BYTES) xs ys long

-- ---- a record that was sealed

-- the length and what is carried
abbrev front_of : List ℕ → List ℕ
front_of payload = to_be_bytes w32 (length payload) ++ payload

abbrev tag_of : List ℕ → ℕ → List ℕ → List ℕ
tag_of block count payload = tag_under block (to_be_bytes w64 count ++ front_of payload)

front_length : (payload : List ℕ) → length (front_of payload) ≡ length payload + LENGTH_BYTES
front_length payload = omega (arith, length-append (to_be_bytes w32 (length payload)) payload)

pub length_of_record : (block : List ℕ) (count : ℕ) (payload : List ℕ) →
    length (record_bytes block count payload) ≡ length payload + OTHER_BYTES
length_of_record block count payload =
    let tag = length-tag block (to_be_bytes w64 count ++ front_of payload) in
    let front = front_length payload in
    length-append (front_of payload) (tag_of block count payload) ∙ omega arith

pub announced_of_record : (block : List ℕ) (count : ℕ) (payload : List ℕ) → length payload ≤ RECORD_BYTES →
    payload_length (record_bytes block count payload) ≡ length payload
announced_of_record block count payload most = from_be_bytes-to_be_bytes_4 (length payload) (omega arith)

pub right_of_record : (block : List ℕ) (count : ℕ) (payload : List ℕ) → 1 ≤ length payload →
    length payload ≤ RECORD_BYTES →
    is_right block count (record_bytes block count payload) ≡ true
right_of_record block count payload least most =
    let bytes = record_bytes block count payload in
    let n = length payload in
    let e : payload_length (record_bytes block count payload) ≡ length payload =
    announced_of_record block count payload most in
    let front : take (n + LENGTH_BYTES) bytes ≡ front_of payload =
    take_at (front_of payload) (tag_of block count payload) (n + LENGTH_BYTES) (front_length payload) in
    let announced : announced_tag n bytes ≡ tag_of block count payload =
    ap (take TAG_BYTES)
    (drop_at (front_of payload) (tag_of block count payload) (n + LENGTH_BYTES) (front_length payload))
    ∙ take_all TAG_BYTES (tag_of block count payload)
    (omega (arith, length-tag block (to_be_bytes w64 count ++ front_of payload))) in
    let wanted : wanted_tag block count n bytes ≡ tag_of block count payload =
    ap (λ l. tag_under block (to_be_bytes w64 count ++ l)) front in
    right_from block count bytes record {
      least = subst (λ m. 1 ≤ m) (sym e) least;
      most = subst (λ m. m ≤ RECORD_BYTES) (sym e) most;
      long = subst (λ m. m + OTHER_BYTES ≤ length bytes) (sym e) (omega (arith, length_of_record block count payload));
      tag = subst (λ m. announced_tag m bytes ≡ wanted_tag block count m bytes) (sym e) (announced ∙ sym wanted);
    }

pub payload_of_record : (block : List ℕ) (count : ℕ) (payload : List ℕ) → length payload ≤ RECORD_BYTES →
    payload_of (record_bytes block count payload) ≡ payload
payload_of_record block count payload most =
    ap (λ m. take m (drop LENGTH_BYTES (record_bytes block count payload)))
    (announced_of_record block count payload most)
    ∙ take_at payload (tag_of block count payload) (length payload) refl

pub after_of_record : (block : List ℕ) (count : ℕ) (payload : List ℕ) → length payload ≤ RECORD_BYTES →
    after_record (record_bytes block count payload) ≡ []
after_of_record block count payload most =
    ap (λ m. drop (m + OTHER_BYTES) (record_bytes block count payload)) (announced_of_record block count payload most)
    ∙ drop_all (length payload + OTHER_BYTES) (record_bytes block count payload)
    (omega (arith, length_of_record block count payload))

-- a record that was not sealed whole is not right
pub cut_not_right : (block : List ℕ) (count : ℕ) (payload : List ℕ) (sent : ℕ) → length payload ≤ RECORD_BYTES →
    sent < length (record_bytes block count payload) →
    is_right block count (take sent (record_bytes block count payload)) ≡ false
cut_not_right block count payload sent most cut = false_from_ne_true _ (λ h.
    let bytes = record_bytes block count payload in
    let long : payload_length (take sent (record_bytes block count payload)) + OTHER_BYTES
    ≤ length (take sent (record_bytes block count payload)) =
    (right_parts block count (take sent (record_bytes block count payload)) h).long in
    let short = length-take sent (record_bytes block count payload) in
    let four : LENGTH_BYTES ≤ sent = omega arith in
    let same : payload_length (take sent (record_bytes block count payload)) ≡ length payload =
    ap (from_be_bytes w32) (take-take LENGTH_BYTES sent (record_bytes block count payload) four)
    ∙ announced_of_record block count payload most in
    absurd (omega (arith, length_of_record block count payload)))
