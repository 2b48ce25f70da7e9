-- What the threads of a page's server share may go to each of them, where its handlers may.
use denote.RattleType.{RattleType}
use denote.Param.Send.{IsSend, IsSync, sendable}
use Rattle.bytes.proofs.shared.Bytes.TheSendSync as bytes
use Rattle.bytes.specs.contracts.shared.Bytes as Bytes
use Rattle.std.proofs.Crossing.{crosses}
use Rattle.std.specs.contracts.alloc.Global as Global
use Rattle.std.specs.contracts.impls.GlobalAllocator.TheImpl as heap
use Rattle.desk_lines.specs.declared.handler.Handler.{Ghosts}
use Rattle.desk_page.specs.contracts.board.Board as Board
use Rattle.desk_page.specs.contracts.shared.SharedPage as SharedPage

bytes_cross : IsSend (Bytes.the_row Global.the_row heap.ghosts)
bytes_cross = search (bytes.the_send, crosses, sendable) depth 20

module _ (D : RattleType) (g : Ghosts D.Denot) where
  board_crosses : IsSend D → IsSend (Board.the_row D g)
  board_crosses d = search (bytes_cross, crosses, sendable) depth 40 fits 5000

  pub shared_crosses : IsSend D → IsSend (SharedPage.the_row D g)
  shared_crosses d = let b = board_crosses d in search (crosses, sendable) depth 40 fits 5000

  pub shared_is_shared : IsSend D → IsSync (SharedPage.the_row D g)
  shared_is_shared d = let b = board_crosses d in search (crosses, sendable) depth 40 fits 5000
