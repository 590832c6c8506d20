mod EnoughLemmas
mod SavingLemmas
mod CallCountLemmas
mod PayingLemmas
mod RecoveryCallLemmas
mod TurnCounts
mod StoreTurnLemmas
mod ShortAnswers
mod DurableLemmas
mod AbreastLemmas
mod SavingActLemmas
mod CauseLemmas
mod CheckpointLemmas
mod WideningLemmas
mod SavingInTwoLemmas
mod UpgradeTestLemmas
mod UpgradeViews
mod UpgradeLemmas
mod MigrationLemmas
mod RecoveryLemmas
mod CreationLemmas
mod SuccessionLemmas
mod FindingLemmas
pub mod LifeLemmas
mod RestoringLemmas
mod SurveyLemmas
mod ActLemmas
mod AddingLemmas
mod OpeningLemmas
pub mod OutletLemmas
mod HeardLemmas
mod EndLemmas
mod GoingLemmas
mod KeptLemmas
mod StartLemmas
mod RunLemmas
pub mod StopLemmas
mod FoundDiskLemmas
pub mod WantLemmas
pub mod RefusedCreations
pub mod CopyLemmas
mod AnswerLemmas
mod FollowingLemmas
mod HandoverLemmas
mod InspectionLemmas
mod QuestionLemmas
mod RefusedLemmas
mod StepLemmas
