-- Two logs of which one is a prefix of the other, and what both have in common.
use Rattle.std.proofs.Common.{◌≡◌, ◌⊎◌, ◌<◌, ◌≤◌, ℕ, zero, suc, List, [], ◌∷◌, ◌++◌, length, take, drop, refl, sym, ap}
use Rattle.std.proofs.Common.{◌∙◌, Some, arith, inl, inr, ⊎_elim}
use Rattle.std.specs.List.{slice_get}
use Rattle.std.proofs.lemmas.List.{take-append-drop}
use Rattle.std.proofs.lemmas.Option.{same_Some, none-some}
use Rattle.desk_types.specs.declared.command.Entry.{Entry}
use Rattle.desk_types.specs.declared.reply.Reply.{Reply}
use Rattle.desk_log.specs.Entries.{IsLogPrefix, IsRising, entry_at}
use Rattle.desk_log.proofs.Places.{entry_at-prefix}
use Rattle.desk_log.proofs.Prefixes.{prefix_trans}
use Rattle.desk_log.proofs.Rising.{numbers_stand_once}
use Rattle.desk_board.specs.Laws.{names}
use Rattle.desk_board.specs.Log.{board_of}
use Rattle.desk_board.proofs.IncidentNames.{names_stay}
use Rattle.desk_world.specs.Agreement.{IsReplyAt}
use Rattle.desk_world.proofs.CommittedAnswers.{IsReplyAt-later, reply_at-prefix}
use Rattle.desk_world.proofs.FirstEntries.{one_prefix, take-same}

-- One is a prefix of the other.
abbrev pub Agree : List Entry → List Entry → Type 0
Agree one other = IsLogPrefix one other ⊎ IsLogPrefix other one

-- So are prefixes of such.
pub prefixes_agree : (one xs other ys : List Entry) → IsLogPrefix one xs → IsLogPrefix other ys → Agree xs ys →
    Agree one other
prefixes_agree one xs other ys f g (inl h) = one_prefix one other ys (prefix_trans one xs ys f h) g
prefixes_agree one xs other ys f g (inr h) = one_prefix one other xs f (prefix_trans other ys xs g h)

-- They have the same first entries, as far as both go,
pub first_same : (one other : List Entry) → Agree one other → (k : ℕ) → k ≤ length one → k ≤ length other →
    take k one ≡ take k other
first_same one other (inl f) k a b = take-same k one other a f
first_same one other (inr f) k a b = sym (take-same k other one b f)

-- one board,
pub boards_same : (domain : List ℕ) (one other : List Entry) → Agree one other → (k : ℕ) → k ≤ length one →
    k ≤ length other → board_of domain (take k one) ≡ board_of domain (take k other)
boards_same domain one other agree k a b = ap (board_of domain) (first_same one other agree k a b)

-- the same incidents under the same identifiers,
pub names_same : (domain : List ℕ) (one other : List Entry) → Agree one other → (k : ℕ) → k ≤ length one →
    k ≤ length other →
    (more : List (ℕ × List ℕ)) × (names (board_of domain other) ≡ names (board_of domain (take k one)) ++ more)
names_same domain one other agree k a b =
    let stays = names_stay domain (take k other) (drop k other) in (
      stays.0,
      rw (first_same one other agree k a b)
          (ap (λ log. names (board_of domain log)) (sym (take-append-drop k other)) ∙ stays.1),
    )

-- and one reply to a number of a client, where such a number stands once in a log.

one_reply : (domain : List ℕ) (log : List Entry) (client number p q : ℕ) (r t : Reply) → IsRising log →
    IsReplyAt domain log client number p r → IsReplyAt domain log client number q t → (p ≡ q) × (r ≡ t)
one_reply domain log client number p q r t rising a b =
    let place : p ≡ q =
    numbers_stand_once log p q a.entry b.entry rising a.stands b.stands (a.client_is ∙ sym b.client_is)
    (a.number_is ∙ sym b.number_is) in
    (place, same_Some r t (sym a.reply_is ∙ (rw place b.reply_is)))

-- They agree, and in both each client's numbers rise.
pub record AgreeAndRise (one other : List Entry) : Type 0 where
  pub agree : Agree one other
  pub rises : IsRising one
  pub other_rises : IsRising other

pub replies_same : (domain : List ℕ) (one other : List Entry) → AgreeAndRise one other → (client number p q : ℕ)
    (r t : Reply) → IsReplyAt domain one client number p r → IsReplyAt domain other client number q t →
    (p ≡ q) × (r ≡ t)
replies_same domain one other two client number p q r t a b = ⊎_elim
    (λ f. one_reply domain other client number p q r t two.other_rises
    (IsReplyAt-later domain one other client number p r f a) b)
    (λ f. one_reply domain one client number p q r t two.rises a
    (IsReplyAt-later domain other one client number q t f b))
    two.agree

-- a place of a log has an entry
some_at : (xs : List Entry) (k : ℕ) → k < length xs → (e : Entry) × (slice_get xs k ≡ Some e)
some_at [] k l = absurd (omega (arith, l))
some_at (x ∷ xs) zero l = (x, refl)
some_at (x ∷ xs) (suc k) l = some_at xs k (omega (arith, l))

-- a reply of a log stands in a prefix that has its place
earlier_reply : (domain : List ℕ) (xs ys : List Entry) (client number place : ℕ) (reply : Reply) → IsLogPrefix xs ys →
    place ≤ length xs → IsReplyAt domain ys client number place reply → IsReplyAt domain xs client number place reply
earlier_reply domain xs ys client number zero reply f l r = absurd (none-some r.entry r.stands)
earlier_reply domain xs ys client number (suc k) reply f l r =
    let x : (e : Entry) × (slice_get xs k ≡ Some e) = some_at xs k (omega (arith, l)) in
    let there : entry_at xs (suc k) ≡ Some x.0 = x.1 in
    let same : x.0 ≡ r.entry =
    same_Some x.0 r.entry (sym (entry_at-prefix xs ys (suc k) x.0 f there) ∙ r.stands) in
    record {
      entry = r.entry;
      stands = there ∙ ap Some same;
      client_is = r.client_is;
      number_is = r.number_is;
      reply_is = reply_at-prefix domain xs ys (suc k) x.0 f there ∙ r.reply_is;
    }

-- A reply stands at its place in both, where both go so far.
pub replies_stand : (domain : List ℕ) (one other : List Entry) → Agree one other → (client number place : ℕ)
    (reply : Reply) → (place ≤ length other → IsReplyAt domain one client number place reply →
    IsReplyAt domain other client number place reply)
    × (place ≤ length one → IsReplyAt domain other client number place reply →
    IsReplyAt domain one client number place reply)
replies_stand domain one other (inl f) client number place reply = (
  (λ within r. IsReplyAt-later domain one other client number place reply f r),
  (λ within r. earlier_reply domain one other client number place reply f within r),
)
replies_stand domain one other (inr f) client number place reply = (
  (λ within r. earlier_reply domain other one client number place reply f within r),
  (λ within r. IsReplyAt-later domain other one client number place reply f r),
)
