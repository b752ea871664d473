pub mod Keys
pub mod Trees
pub mod Bounds
pub mod Place
pub mod Descent
pub mod Faults
pub mod Taking
pub mod CheckTrees
pub mod CheckLeaves
pub mod CheckSteps
pub mod Depth
pub mod Walk
pub mod Represented
pub mod Kept
pub mod Scans
pub mod After
pub mod Stepping
pub mod PutKeys
pub mod PutTrees
pub mod CutPlaces
pub mod PutNodes
pub mod PutSteps
pub mod RemovalPages
pub mod RemovalNodes
pub mod RemovalTrees
pub mod RemovalSides
pub mod RemovalLost
pub mod RemovalJoins
pub mod RemovalMoved
pub mod RemovalSteps
pub mod RemovalFollows
pub mod RemovalBelow
pub mod Spans
mod Edits
mod LeafChanges
mod Bounded
mod Made
mod Turning
mod LeavesBehind
pub mod LeafJoins
