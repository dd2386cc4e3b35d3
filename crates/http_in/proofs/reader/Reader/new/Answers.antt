use Rattle.http_in.proofs.OneLemmas.{faults_end, faults_one, requests_one, requests_whole}
use Rattle.http_in.proofs.reader.Reader.new.Goals as goal

pub returns-clause-requests : goal.returns-clause-requests
returns-clause-requests c = requests_one

pub returns-clause-whole : goal.returns-clause-whole
returns-clause-whole c = requests_whole

pub returns-clause-faults : goal.returns-clause-faults
returns-clause-faults c = faults_one

pub returns-clause-ends : goal.returns-clause-ends
returns-clause-ends c = faults_end
