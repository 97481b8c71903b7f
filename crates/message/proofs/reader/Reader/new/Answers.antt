use Rattle.message.proofs.ReadingBack.{read_back}
use Rattle.message.proofs.reader.Reader.new.Goals as goal

pub returns-clause-reads_back : goal.returns-clause-reads_back
returns-clause-reads_back g c = λ m is. read_back g.K.Kind.means c.args.setup c.args.bytes.now m is
