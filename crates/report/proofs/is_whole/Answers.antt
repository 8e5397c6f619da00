-- `report::is_whole` meets its contract. The step `struct_told` gives that the numbers of the fields fit.
use mir.Syntax.{w32}
use mir.ValLaws.{to_z-of_z}
use Rattle.report.proofs.Files.{not_opened, was-opened}
use Rattle.report.proofs.is_whole.Goals as goal

pub returns-then-fd-ge0 : goal.returns-then-fd-ge0
returns-then-fd-ge0 c =
    let a = c.args.file in
    was-opened a (to_z-of_z w32 a.fd (record { sfits = c.struct_told-2-1.given.0.1 })) c.if-fd-ge0.true (record { sfits = c.struct_told-2-1.given.1.1.0.1 })

pub returns-else-fd-ge0 : goal.returns-else-fd-ge0
returns-else-fd-ge0 c =
    let a = c.args.file in
    not_opened a (to_z-of_z w32 a.fd (record { sfits = c.struct_told-2-1.given.0.1 })) c.if-fd-ge0.false
