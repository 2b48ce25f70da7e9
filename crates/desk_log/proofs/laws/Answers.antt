use Rattle.desk_log.proofs.Prefixes.{prefix_refl, prefix_trans, prefix_append, prefix_take, prefix_is_first}
use Rattle.desk_log.proofs.Prefixes.{prefixes_in_order}
use Rattle.desk_log.proofs.Latest.{latest_is_last, latest_is_none, latest_push}
use Rattle.desk_log.proofs.Rising.{rising_with_one_more, rising_prefix, later_is_greater, numbers_stand_once}
use Rattle.desk_log.proofs.Admitted.{appended_is_rising, retried_stands}
use Rattle.desk_log.proofs.ClientRows.{clients_differ, rows_are_latest, each_client_has_row}
use Rattle.desk_log.proofs.laws.Goals as goal

pub returns : goal.returns
returns c = record {
  prefix_of_itself = prefix_refl;
  prefix_of_prefix = prefix_trans;
  prefix_of_longer = prefix_append;
  first_entries = prefix_take;
  prefix_is_first = prefix_is_first;
  prefixes_ordered = prefixes_in_order;
  latest_is_last = latest_is_last;
  latest_is_none = latest_is_none;
  latest_of_one_more = latest_push;
  rising_with_one_more = rising_with_one_more;
  prefix_of_rising = rising_prefix;
  later_is_greater = later_is_greater;
  numbers_stand_once = numbers_stand_once;
  appended_is_rising = appended_is_rising;
  retried_stands = retried_stands;
  clients_differ = clients_differ;
  rows_are_latest = rows_are_latest;
  each_client_has_row = each_client_has_row;
}
