use Rattle.ddc_app.proofs.Sessions.{performing}
use Rattle.ddc_app.proofs.top_call.perform.Goals as goal

pub returns-in-Hex0 : goal.returns-in-Hex0
returns-in-Hex0 g c = rw c.in-Hex0.is (search performing)

pub returns-in-Asm : goal.returns-in-Asm
returns-in-Asm g c = rw c.in-Asm.is (search performing)

pub returns-in-Where : goal.returns-in-Where
returns-in-Where g c = rw c.in-Where.is (search performing)

pub returns-in-List : goal.returns-in-List
returns-in-List g c = rw c.in-List.is (search performing)

pub returns-in-Run : goal.returns-in-Run
returns-in-Run g c = rw c.in-Run.is (search performing)

pub returns-in-Audit : goal.returns-in-Audit
returns-in-Audit g c = rw c.in-Audit.is (search performing)

pub returns-in-Part : goal.returns-in-Part
returns-in-Part g c = rw c.in-Part.is (search performing)

pub returns-in-Resume : goal.returns-in-Resume
returns-in-Resume g c = rw c.in-Resume.is (search performing)

pub returns-in-DeltaStart : goal.returns-in-DeltaStart
returns-in-DeltaStart g c = rw c.in-DeltaStart.is (search performing)

pub returns-in-DeltaResume : goal.returns-in-DeltaResume
returns-in-DeltaResume g c = rw c.in-DeltaResume.is (search performing)

pub returns-in-Show : goal.returns-in-Show
returns-in-Show g c = rw c.in-Show.is (search performing)

pub returns-in-Verify : goal.returns-in-Verify
returns-in-Verify g c = rw c.in-Verify.is (search performing)

pub returns-in-Provenance : goal.returns-in-Provenance
returns-in-Provenance g c = rw c.in-Provenance.is (search performing)

pub returns-in-Chain : goal.returns-in-Chain
returns-in-Chain g c = rw c.in-Chain.is (search performing)

pub returns-in-Rests : goal.returns-in-Rests
returns-in-Rests g c = rw c.in-Rests.is (search performing)

pub returns-in-Step : goal.returns-in-Step
returns-in-Step g c = rw c.in-Step.is (search performing)

pub returns-in-Left : goal.returns-in-Left
returns-in-Left g c = rw c.in-Left.is (search performing)

pub returns-in-Cut : goal.returns-in-Cut
returns-in-Cut g c = rw c.in-Cut.is (search performing)

pub returns-in-Segment : goal.returns-in-Segment
returns-in-Segment g c = rw c.in-Segment.is (search performing)

pub returns-in-Ends : goal.returns-in-Ends
returns-in-Ends g c = rw c.in-Ends.is (search performing)

pub returns-in-Kaem : goal.returns-in-Kaem
returns-in-Kaem g c = rw c.in-Kaem.is (search performing)

pub returns-in-KaemVerify : goal.returns-in-KaemVerify
returns-in-KaemVerify g c = rw c.in-KaemVerify.is (search performing)

pub returns-in-KaemLeft : goal.returns-in-KaemLeft
returns-in-KaemLeft g c = rw c.in-KaemLeft.is (search performing)

pub returns-in-Demo : goal.returns-in-Demo
returns-in-Demo g c = rw c.in-Demo.is (search performing)

pub returns-in-Help : goal.returns-in-Help
returns-in-Help g c = rw c.in-Help.is (search performing)

pub returns-in-Version : goal.returns-in-Version
returns-in-Version g c = rw c.in-Version.is (search performing)
