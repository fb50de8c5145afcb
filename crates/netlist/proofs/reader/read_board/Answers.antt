use Rattle.std.proofs.Common.{Ok}
use Rattle.drawing.specs.Calls.{sheet}
use Rattle.netlist.specs.declared.fault.BoardFault.TheVariants.{Block}
use Rattle.netlist.specs.declared.reader.Netlist.{Netlist}
use Rattle.netlist.specs.Files.{Reading}
use Rattle.netlist.specs.Reads.{Gives}
use Rattle.netlist.proofs.Exactly.{accepts_only, accepts_every, refuses, one_outcome, starts_sound, FaultGiven, block_fault, disagreement, gives_board, finishes, finished}
use Rattle.netlist.proofs.Going.{hands_on}
use Rattle.netlist.proofs.reader.read_board.Goals as goal

pub returns-in_err-drawn : goal.returns-in_err-drawn
returns-in_err-drawn g c =
    let time = g.C.Clock.time in
    let laws = g.met.C.Clock.lawful in
    let file = c.args.file.now in
    let r = c.from_residual.result in
    let e = c.in_err-drawn.field-0.0 in
    let gives : Gives time file r = hands_on _ (FaultGiven time file) (Block e) r c.from_residual.ensures.1 (block_fault time file e c.in_err-drawn.ensures.reads_or_refuses) in
    record {
      gives_what_the_file_gives = gives;
      accepts_only_written_boards = accepts_only time file r gives;
      accepts_every_written_board = accepts_every time file r gives;
      refuses_by_the_first_question_that_fails = refuses time file r gives;
      has_one_outcome = one_outcome time file r gives;
      start_states_are_sound = starts_sound time file laws r gives;
    }

pub returns-in_err-agrees : goal.returns-in_err-agrees
returns-in_err-agrees g c =
    let time = g.C.Clock.time in
    let laws = g.met.C.Clock.lawful in
    let file = c.args.file.now in
    let r = c.from_residual-in_err-agrees.result in
    let e = c.in_err-agrees.field-0.0 in
    let d : Reading g.row.C.Denot = record { sheet = sheet c.in_ok-drawn.drawn.drawing; bytes = c.in_ok-drawn.drawn.bytes } in
    let read = c.in_ok-drawn.ensures.reads_or_refuses in
    let gives : Gives time file r = hands_on _ (FaultGiven time file) e r c.from_residual-in_err-agrees.ensures.1 (disagreement time file c.in_ok-drawn.drawn.header d read.1 e c.in_err-agrees.ensures.asks_in_order) in
    record {
      gives_what_the_file_gives = gives;
      accepts_only_written_boards = accepts_only time file r gives;
      accepts_every_written_board = accepts_every time file r gives;
      refuses_by_the_first_question_that_fails = refuses time file r gives;
      has_one_outcome = one_outcome time file r gives;
      start_states_are_sound = starts_sound time file laws r gives;
    }

pub unwrap-board-requires : goal.unwrap-board-requires
unwrap-board-requires g c = finishes c.in_ok-drawn.drawn.drawing c.in_ok-drawn.ensures.reads_or_refuses.0 c.finish.result c.finish.ensures.gives_the_board_or_the_drawing_back

pub returns : goal.returns
returns g c =
    let time = g.C.Clock.time in
    let laws = g.met.C.Clock.lawful in
    let file = c.args.file.now in
    let d : Reading g.row.C.Denot = record { sheet = sheet c.in_ok-drawn.drawn.drawing; bytes = c.in_ok-drawn.drawn.bytes } in
    let read = c.in_ok-drawn.ensures.reads_or_refuses in
    let n : Netlist g.row.C.Denot = record { board = c.unwrap-board.result; bytes = c.in_ok-drawn.drawn.bytes } in
    let r = Ok n in
    let same = finished c.in_ok-drawn.drawn.drawing read.0 c.finish.result n c.finish.ensures.gives_the_board_or_the_drawing_back c.unwrap-board.ensures in
    let gives : Gives time file r = gives_board time file c.in_ok-drawn.drawn.header d read.1 n c.in_ok-agrees.ensures.asks_in_order same in
    record {
      gives_what_the_file_gives = gives;
      accepts_only_written_boards = accepts_only time file r gives;
      accepts_every_written_board = accepts_every time file r gives;
      refuses_by_the_first_question_that_fails = refuses time file r gives;
      has_one_outcome = one_outcome time file r gives;
      start_states_are_sound = starts_sound time file laws r gives;
    }
