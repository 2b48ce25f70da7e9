-- The log with which a primary starts its view.
use Rattle.std.specs.Prelude.{ℕ, zero, suc, max, Bool, true, false, ◌&&◌, ◌||◌, ◌==◌, nat_lt, if◌then◌else◌, List, []}
use Rattle.std.specs.Prelude.{◌∷◌, length, slice_index_or, Option, Some, None}
use Rattle.desk_types.specs.declared.packet.Message.TheVariants.{PrepareOk, StartView}
use Rattle.desk_log.specs.declared.answers.Answers.TheVariants as answers
use Rattle.desk_log.specs.Change.{Change, nothing, to_others, with_log, keeps_committed}
use Rattle.desk_log.specs.Quorum.{faults, tally}
use Rattle.desk_log.specs.SavedValue.{SavedValue}
use Rattle.desk_view_change.specs.declared.offer.Offer.{Offer}

abbrev pub has_offer : Option Offer → Bool
has_offer None = false
has_offer (Some offer) = true

-- the commit of an offer, 0 where there is none
abbrev pub commit_of : Option Offer → ℕ
commit_of None = 0
commit_of (Some offer) = offer.commit

-- whether the second is of a later normal view, or of the same with a longer log
abbrev pub is_better : Offer → Offer → Bool
is_better a b = nat_lt a.normal b.normal || ((a.normal == b.normal) && nat_lt (length a.log) (length b.log))

-- the second where it is better, else the first
abbrev pub better_offer : Option Offer → Option Offer → Option Offer
better_offer None b = b
better_offer (Some a) None = Some a
better_offer (Some a) (Some b) = Some (if is_better a b then b else a)

-- The best offer of the nodes below k: of the greatest normal view, of these the longest, of these the lowest node's.
abbrev pub best_offer : List (Option Offer) → ℕ → Option Offer
best_offer offers zero = None
best_offer offers (suc k) = better_offer (best_offer offers k) (slice_index_or offers k None)

-- the greatest commit of the offers of the nodes below k
abbrev pub greatest_commit : List (Option Offer) → ℕ → ℕ
greatest_commit offers zero = 0
greatest_commit offers (suc k) = max (greatest_commit offers k) (commit_of (slice_index_or offers k None))

-- More nodes than may fail have offered, and the node itself has.
abbrev pub may_choose : ℕ → ℕ → List (Option Offer) → Bool
may_choose i n offers = nat_lt (faults n) (tally n (λ j. has_offer (slice_index_or offers j None)))
    && has_offer (slice_index_or offers i None)

-- The primary starts its view with the log of an offer, and commits up to a place.
unfoldable pub new_view : ℕ → ℕ → SavedValue → ℕ → Offer → Change
new_view i n saved commit offer =
    let new : SavedValue = with_log saved.view offer.log commit saved in
    record {
      saved = new;
      taken = [];
      packets = (i, PrepareOk i saved.view (length offer.log)) ∷ to_others i n
          (StartView i saved.view new.commit offer.log);
      answers = answers.Replies saved.commit new.commit;
    }

-- It does so where the log keeps what the primary has committed.
unfoldable pub new_view_with : ℕ → ℕ → SavedValue → ℕ → Option Offer → Change
new_view_with i n saved commit None = nothing saved
new_view_with i n saved commit (Some offer) = if keeps_committed saved offer.log then new_view i n saved commit offer
    else nothing saved

-- The primary of the view chooses the best offer, once it may.
unfoldable pub choice : ℕ → ℕ → SavedValue → List (Option Offer) → Change
choice i n saved offers = if may_choose i n offers then new_view_with i n saved (greatest_commit offers n)
    (best_offer offers n) else nothing saved
