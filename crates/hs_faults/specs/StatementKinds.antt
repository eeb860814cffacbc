-- What a statement that is lent says.
use Rattle.hs_faults.specs.declared.nodes.BlockId.{BlockId}
use Rattle.hs_faults.specs.declared.statements.StatementKind.{StatementKind}
use Rattle.hs_faults.specs.declared.statements.StatementKind.TheVariants as kind
use Rattle.hs_faults.specs.Statements.{Statement, Edge, Set, Where}

abbrev pub statement_at : BlockId → StatementKind → Statement
statement_at block (kind.Edge mark source target reference) =
    Edge block mark source.now target.now reference.now
statement_at block (kind.Set node attribute value) = Set block node.now attribute.now value.now
statement_at block (kind.Where word test) = Where block word test.now
